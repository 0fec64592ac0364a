-- Building with an offset: the call with the offset's limit, its answer renumbered.
use Rattle.offset_calls.proofs.Calls.{built}
use Rattle.offset_calls.proofs.build_offset.Goals as goal

pub returns : goal.returns
returns c = built c.limit_for-limit.ensures c.renumbered.ensures c.build.ensures
