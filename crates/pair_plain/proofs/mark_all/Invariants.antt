-- The loop keeps the marks of the ends passed.
use Rattle.pair_plain.proofs.Starting.{MarkedTo}
use Rattle.pair_plain.proofs.mark_all.Given as goal

abbrev pub invariant-loop-e : goal.invariant-loop-e
invariant-loop-e l = MarkedTo l.initial.w l.d l.e l.w
