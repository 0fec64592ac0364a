-- The bits of the infinities are no NaN's.
use mathlib.Core.Path.{refl}
use native.Mathlib.Omega.{arith}
use lib.Ieee.{nan_bits}
use Rattle.box_levels.proofs.nothing.Goals as goal

pub float_from_bits-top : goal.float_from_bits-top
unfolding nan_bits
float_from_bits-top c = tt

pub float_from_bits-bottom : goal.float_from_bits-bottom
unfolding nan_bits
float_from_bits-bottom c = tt

pub returns : goal.returns
returns c = record { is = refl; low_x = omega arith; from_low_y = omega arith; to_high_x = omega arith; to_high_y = omega arith }
