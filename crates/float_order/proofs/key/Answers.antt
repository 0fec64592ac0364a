-- `order::key` meets its contract: the definition is the callee's.
use Rattle.float_order.specs.Key.{key}
use Rattle.float_order.proofs.key.Goals as goal

pub returns : goal.returns
unfolding key
returns c = c.rank_or.ensures
