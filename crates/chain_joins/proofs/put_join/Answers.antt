use Rattle.chain_joins.proofs.Putting.{put_holds}
use Rattle.chain_joins.proofs.put_join.Goals as goal

pub returns : goal.returns
returns c = put_holds _ _ _ _ _ c.requires.0 c.requires.1 c.requires.2
