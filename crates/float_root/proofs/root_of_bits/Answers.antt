-- `root::root_of_bits` meets its contract, pattern by pattern: zero, above zero, infinity, -0.0, and the rest, which has no root.
use Prim.Native.Nat.{ℕ}
use mathlib.Core.Path.{sym, ap, ◌∙◌}
use native.Mathlib.Omega.{arith}
use lib.Ieee.{binary64, of_bits}
use Rattle.rules.specs.Root.{root}
use Rattle.float_root.proofs.Values.{root_zero, root_infinity, root_minus_zero, root_rest}
use Rattle.float_root.proofs.root_of_bits.Goals as goal

pub returns-then-n-eq0 : goal.returns-then-n-eq0
returns-then-n-eq0 c = root_zero ∙ ap (λ (n : ℕ). root binary64 (of_bits binary64 n)) (sym c.if-n-eq0.true)

pub returns-then-n-eq-INFINITE : goal.returns-then-n-eq-INFINITE
returns-then-n-eq-INFINITE c = root_infinity ∙ ap (λ (n : ℕ). root binary64 (of_bits binary64 n)) (sym c.if-n-eq-INFINITE.true)

pub returns-then-n-eq-SIGN : goal.returns-then-n-eq-SIGN
returns-then-n-eq-SIGN c = root_minus_zero ∙ ap (λ (n : ℕ). root binary64 (of_bits binary64 n)) (sym c.if-n-eq-SIGN.true)

pub returns-else-n-eq-SIGN : goal.returns-else-n-eq-SIGN
returns-else-n-eq-SIGN c = root_rest c.args.n (omega arith) (omega arith) c.if-n-eq-SIGN.false
