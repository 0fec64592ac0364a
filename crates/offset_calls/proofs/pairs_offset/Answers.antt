-- A route with an offset: the call with the offset's limit, its answer renumbered.
use Rattle.offset_calls.proofs.Calls.{paired}
use Rattle.offset_calls.proofs.pairs_offset.Goals as goal

pub returns : goal.returns
returns g c = paired c.limit_for-limit.ensures c.renumbered.ensures c.pairs.ensures
