-- `order::clamped` meets its contract: a literal is its bits' value, so `of_bits` and `neg` are unfolded.
use lib.Ieee.{of_bits, neg}
use Rattle.rules.specs.Plane.{clamp}
use Rattle.float_order.proofs.clamped.Goals as goal

pub returns : goal.returns
unfolding clamp of_bits neg
returns c = c.clamp.ensures.value
