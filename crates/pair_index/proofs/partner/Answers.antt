use Rattle.pair_index.proofs.Steps.{has}
use Rattle.pair_index.proofs.partner.Goals as goal

pub reach-requires : goal.reach-requires
reach-requires c = (has c.requires, c.requires.note)
