-- `root::assemble` meets its contract: the nearest whole root has 53 binary digits, or is 2 ^ 53, and its sum with the exponent is written so.
use Prim.Native.Nat.{◌+◌, ◌*◌, ◌%◌, ◌^◌}
use mathlib.Core.Path.{sym, ◌∙◌, subst}
use mathlib.Core.Bool.{Bool, not}
use native.Mathlib.Omega.{arith}
use borrow.Author.Tests.{le-ltb}
use lib.Dec.{T}
use lib.Ieee.{binary64}
use lib.Ieee.Bits.{nan_bits_above}
use Rattle.float_root.proofs.Shift.{at_least, at_most}
use Rattle.float_root.proofs.Written.{units_bits, root_at}
use Rattle.float_root.proofs.assemble.Goals as goal

pub overflow_add-result : goal.overflow_add-result
overflow_add-result c = omega (arith, at_most _ _ c.nearest_root.ensures (omega arith))

pub float_from_bits-result : goal.float_from_bits-result
float_from_bits-result c =
    let n = c.args.k * 2 ^ 52 + c.nearest_root.result in
    subst (λ (b : Bool). T (not b)) (sym (nan_bits_above binary64 n ∙ le-ltb 0x7ff0_0000_0000_0000 (n % 2 ^ 63) (omega (arith, at_most _ _ c.nearest_root.ensures (omega arith))))) tt

pub returns : goal.returns
returns c =
    units_bits c.nearest_root.result c.args.k (at_least _ _ c.nearest_root.ensures (omega arith)) (at_most _ _ c.nearest_root.ensures (omega arith)) (omega arith)
    ∙ sym (root_at _ c.args.k c.nearest_root.result (omega arith) (omega arith) c.nearest_root.ensures)
