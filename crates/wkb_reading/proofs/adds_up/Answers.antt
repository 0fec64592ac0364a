-- The lengths add up to n exactly if nothing is left when they are taken from it one by one.
use mathlib.Core.Path.{ap, ◌∙◌}
use native.Mathlib.Omega.{arith}
use Prim.Native.Nat.{ℕ, ◌+◌}
use lib.ListN.{drop, get_or}
use Rattle.rules.specs.Lists.{total}
use Rattle.wkb_reading.proofs.Laws.{too_long, nothing_left, total_drop, total_end}
use Rattle.wkb_reading.proofs.adds_up.Goals as goal

pub returns-then-left-next : goal.returns-then-left-next
returns-then-left-next c =
    let a = c.args in
    let o = c.loop-next in
    too_long _ o.left _ (total (drop (o.next-index + 1) a.lengths.now)) (get_or a.lengths.now o.next-index 0) o.invariant.0
    (o.invariant.1 ∙ ap (λ (t : ℕ). a.n + t) (total_drop _ _ c.loop-next-test.true)) c.if-left-next.true

pub loop-next-preserved : goal.loop-next-preserved
loop-next-preserved c = omega (arith, total_drop c.args.lengths.now c.loop-next.next-index c.loop-next-test.true)

pub returns : goal.returns
returns c = nothing_left _ _ _ (c.loop-next.invariant.1 ∙ ap (λ (t : ℕ). c.args.n + t) (total_end _ _ c.loop-next-test.false))
