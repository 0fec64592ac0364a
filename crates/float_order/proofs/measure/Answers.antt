-- `order::measure` meets its contract: the callee clamps the sum of products.
use Rattle.rules.specs.Plane.{measure, dot}
use Rattle.float_order.proofs.measure.Goals as goal

pub returns : goal.returns
unfolding measure dot
returns c = c.clamped.ensures
