-- The word k falls along the chain, so that it is the measure. Places that it passes over are of other buckets and hold other pieces: c and the count among the first k give the count among all.
use Prim.Native.Nat.{◌-◌, ◌<◌}
use mathlib.Core.Path.{◌≡◌}
use native.Mathlib.Omega.{arith}
use lib.ListN.{take, get_or}
use Rattle.rules.specs.Lists.{count}
use Rattle.pair_refusals.proofs.Times.{none_first, count_most}
use Rattle.pair_refusals.proofs.Links.{chain_less, chain_next, count_met, count_passed}
use Rattle.pair_refusals.proofs.times_linked.Goals as goal
use Rattle.pair_refusals.proofs.times_linked.Goals.{At-loop-k, then-pieces-k, else-pieces-k}

less : (l : At-loop-k) → 0 < l.loop-k.k → get_or l.args.next.now (l.loop-k.k - 1) 0 < l.loop-k.k
less l h = chain_less l.loop-k.invariant.0 h

pub loop-k-init : goal.loop-k-init
loop-k-init c = (c.requires, omega arith)

pub overflow_add-c : goal.overflow_add-c
overflow_add-c c =
    omega (arith, count_most c.args.p c.args.pieces.now c.args.from)

pub overflow_cast-k-in-loop-k : goal.overflow_cast-k-in-loop-k
overflow_cast-k-in-loop-k c = omega (arith, less (goal.at.overflow_cast-k-in-loop-k c).At-loop-k (omega arith))

pub loop-k-smaller : goal.loop-k-smaller
loop-k-smaller c = less (goal.at.loop-k-smaller c).At-loop-k (omega arith)

pub loop-k-preserved : goal.loop-k-preserved
loop-k-preserved c =
    let h : 0 < c.loop-k.k = omega arith in (
      chain_next c.loop-k.invariant.0 h,
      elim c.if-pieces-k.branch [
        | then-pieces-k w ↦ omega (arith, count_met c.loop-k.invariant.0 h w.if-pieces-k.true)
        | else-pieces-k w ↦ omega (arith, count_passed c.loop-k.invariant.0 h w.if-pieces-k.false)
      ],
    )

pub returns : goal.returns
returns c =
    let e : c.loop-k.k ≡ 0 = omega arith in
    let z : count c.args.p (take c.loop-k.k c.args.pieces.now) ≡ 0 = rw e (none_first c.args.p c.args.pieces.now) in
    omega arith
