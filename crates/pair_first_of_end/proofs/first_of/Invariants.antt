-- The loop keeps the walk, and each way through its body is one step of it.
use Rattle.pair_first_of_end.proofs.Walk.{Walk}
use Rattle.pair_first_of_end.proofs.first_of.Given as goal

abbrev pub invariant-loop-j : goal.invariant-loop-j
invariant-loop-j l = Walk l.w l.d l.limit l.i l.near l.j
