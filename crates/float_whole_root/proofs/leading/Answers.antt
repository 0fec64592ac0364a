-- `whole_root::leading` meets its contract: each of its answers is that case of `leading_of`, at the bits of v.
use mathlib.Core.Path.{sym, ap, ◌∙◌}
use native.Mathlib.Omega.{arith}
use Rattle.float_whole_root.specs.Guess.{leading_of}
use Rattle.float_whole_root.proofs.Significand.{outside, within}
use Rattle.float_whole_root.proofs.leading.Goals as goal

pub returns-then-n-gt4611686018427387904 : goal.returns-then-n-gt4611686018427387904
returns-then-n-gt4611686018427387904 c =
    let n = c.bits_of-n in (sym (outside n.result c.if-n-gt4611686018427387904.either) ∙ ap leading_of n.ensures, omega arith, omega arith)

pub returns-else-n-gt4611686018427387904 : goal.returns-else-n-gt4611686018427387904
returns-else-n-gt4611686018427387904 c =
    let n = c.bits_of-n in
    let h = c.if-n-gt4611686018427387904.false in
    (sym (within n.result h.0 h.1) ∙ ap leading_of n.ensures, omega arith, omega arith)
