-- `bits::same` meets its contract: a number's bits are its own, and other bits are another number's, but for the two zeros.
use mathlib.Core.Path.{sym, ap, ◌∙◌}
use mathlib.Core.Bool.{not}
use Prim.Native.Nat.{ℕ}
use native.Mathlib.Omega.{arith}
use lib.Ieee.{binary64, of_bits, eq}
use Rattle.float_bits.proofs.Equal.{eq_self, other_bits}
use Rattle.float_bits.proofs.same.Goals as goal

pub returns-then-a-b : goal.returns-then-a-b
returns-then-a-b c =
    let a = c.args in
    ap not c.is_nan.ensures ∙ sym (eq_self (of_bits binary64 a.a)) ∙ ap (λ (n : ℕ). eq (of_bits binary64 a.a) (of_bits binary64 n)) c.if-a-b.true

pub overflow_add-result : goal.overflow_add-result
overflow_add-result c = omega arith

pub returns-else-a-b : goal.returns-else-a-b
returns-else-a-b c = let a = c.args in other_bits a.a a.b (omega arith) (omega arith) c.if-a-b.false
