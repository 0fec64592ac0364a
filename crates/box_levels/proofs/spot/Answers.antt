-- The two values are read from their bits, which are no NaN's.
use mathlib.Core.Path.{refl}
use native.Mathlib.Omega.{arith}
use Rattle.box_levels.proofs.Extents.{bits_real}
use Rattle.box_levels.proofs.spot.Goals as goal

pub float_from_bits-a : goal.float_from_bits-a
float_from_bits-a c = bits_real c.args.x c.requires.0

pub float_from_bits-b : goal.float_from_bits-b
float_from_bits-b c = bits_real c.args.y c.requires.1

pub returns : goal.returns
returns c = record { is = refl; low_x = omega arith; from_low_y = omega arith; to_high_x = omega arith; to_high_y = omega arith }
