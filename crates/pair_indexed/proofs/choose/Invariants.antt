use Rattle.pair_indexed.proofs.Turns.{Going, remaining}
use Rattle.pair_indexed.proofs.choose.Given as goal

abbrev pub invariant-loop-c : goal.invariant-loop-c
invariant-loop-c l = Going l.initial.w l.w l.plan.d l.plan.index.height l.plan.slots l.plan.limit l.n

abbrev pub decreases-loop-c : goal.decreases-loop-c
decreases-loop-c l = remaining l.w l.plan.d l.plan.slots
