-- `order::low_key` meets its contract: the definition is the callee's.
use Rattle.float_order.specs.Key.{low_key}
use Rattle.float_order.proofs.low_key.Goals as goal

pub returns : goal.returns
unfolding low_key
returns c = c.rank_or.ensures
