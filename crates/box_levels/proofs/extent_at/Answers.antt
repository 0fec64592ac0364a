-- Four values are read from their bits, which are no NaN's.
use mathlib.Core.Path.{refl}
use Prim.Native.Nat.{◌+◌, ◌*◌}
use native.Mathlib.Omega.{arith}
use Rattle.rules.specs.Boxes.{box_at}
use Rattle.box_levels.proofs.Extents.{bits_real}
use Rattle.box_levels.proofs.extent_at.Goals as goal

pub float_from_bits-result : goal.float_from_bits-result
unfolding box_at
float_from_bits-result c = bits_real _ c.requires.1.low_x

pub float_from_bits-result-2 : goal.float_from_bits-result-2
unfolding box_at
float_from_bits-result-2 c = bits_real _ c.requires.1.from_low_y

pub float_from_bits-result-3 : goal.float_from_bits-result-3
unfolding box_at
float_from_bits-result-3 c = bits_real _ c.requires.1.to_high_x

pub float_from_bits-result-4 : goal.float_from_bits-result-4
unfolding box_at
float_from_bits-result-4 c = bits_real _ c.requires.1.to_high_y

pub returns : goal.returns
unfolding box_at
returns c =
    let at = c.args.j * 4 in
    let given = c.type_inv.boxes in
    record { is = refl; low_x = omega (arith, given at); from_low_y = omega (arith, given (at + 1)); to_high_x = omega (arith, given (at + 2)); to_high_y = omega (arith, given (at + 3)) }
