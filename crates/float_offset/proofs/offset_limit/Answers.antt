-- `float_offset::offset_limit` meets its contract: refused above 1,000, and elsewhere the bits are those of the limit.
use native.Mathlib.Omega.{arith}
use mathlib.Core.Path.{◌∙◌, ap}
use Prim.Native.Nat.{ℕ, ◌+◌}
use Rattle.rules.specs.Answers.{Accepted}
use Rattle.float_offset.proofs.Roots.{root_greatest}
use Rattle.float_offset.proofs.Limits.{asked_refused, asked_limit}
use Rattle.float_offset.proofs.offset_limit.Goals as goal

pub returns-then-g-gt-MOST : goal.returns-then-g-gt-MOST
returns-then-g-gt-MOST c = asked_refused _ c.if-g-gt-MOST.true

pub overflow_add-result : goal.overflow_add-result
overflow_add-result c = omega (arith, c.largest.ensures, root_greatest c.args.g)

pub returns : goal.returns
returns c = ap (λ (n : ℕ). Accepted (0xbfd0_0000_0000_0000 + n)) c.largest.ensures ∙ asked_limit _ c.if-g-gt-MOST.false
