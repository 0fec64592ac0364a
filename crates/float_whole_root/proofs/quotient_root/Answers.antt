-- `whole_root::quotient_root` meets its contract. The loop's invariant is `Passed`.
use Prim.Native.Nat.{ℕ, ◌+◌, ◌*◌}
use mathlib.Core.Path.{ap, ◌∙◌}
use native.Mathlib.Omega.{arith}
use Rattle.std.proofs.Common.{add-zero}
use Rattle.float_whole_root.proofs.Digit.{start, below, two_digits, taken, passed_by, moved, ended}
use Rattle.float_whole_root.proofs.quotient_root.Goals as goal
use Rattle.float_whole_root.proofs.quotient_root.Goals.{then-trial-next, else-trial-next}

pub loop-init : goal.loop-init
loop-init c = start _ _ c.requires.0

pub overflow_mul-next : goal.overflow_mul-next
overflow_mul-next c = omega (arith, below c.loop.invariant (omega arith))

pub overflow_mul-next-in-loop : goal.overflow_mul-next-in-loop
overflow_mul-next-in-loop c = omega (arith, c.loop.invariant.rest)

pub overflow_add-next : goal.overflow_add-next
overflow_add-next c = omega (arith, below c.loop.invariant (omega arith), two_digits c.args.d c.loop.left c.loop.invariant.rest)

pub overflow_mul-trial : goal.overflow_mul-trial
overflow_mul-trial c = omega (arith, below c.loop.invariant (omega arith))

pub overflow_add-trial : goal.overflow_add-trial
overflow_add-trial c = omega (arith, below c.loop.invariant (omega arith))

pub overflow_mul-left : goal.overflow_mul-left
overflow_mul-left c = omega (arith, c.loop.invariant.rest)

pub overflow_mul-q : goal.overflow_mul-q
overflow_mul-q c = omega (arith, below c.loop.invariant (omega arith))

pub overflow_add-q : goal.overflow_add-q
overflow_add-q c =
    elim c.if-trial-next.branch [
      | then-trial-next w ↦ omega (arith, below c.loop.invariant (omega arith), ap (λ (v : ℕ × ℕ). v.0) w.digit-is)
      | else-trial-next w ↦ omega (arith, below c.loop.invariant (omega arith), ap (λ (v : ℕ × ℕ). v.0) w.digit-is)
    ]

pub loop-preserved : goal.loop-preserved
loop-preserved c =
    let p = c.loop.invariant in
    let q = c.loop.q in
    elim c.if-trial-next.branch [
      | then-trial-next w ↦ moved (taken p w.if-trial-next.true) (ap (λ (v : ℕ × ℕ). q * 2 + v.0) w.digit-is) (ap (λ (v : ℕ × ℕ). v.1) w.digit-is)
      | else-trial-next w ↦ moved (passed_by p w.if-trial-next.false) (ap (λ (v : ℕ × ℕ). q * 2 + v.0) w.digit-is ∙ add-zero (q * 2)) (ap (λ (v : ℕ × ℕ). v.1) w.digit-is)
    ]

pub returns : goal.returns
returns c = ended c.loop.invariant c.loop.auto.counter-end c.loop-test.false
