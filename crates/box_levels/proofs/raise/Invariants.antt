-- The loop's invariant is `Raised`; what is left at the end is nothing, or one box alone.
use Rattle.box_levels.proofs.Raised.{Raised}
use Rattle.box_levels.proofs.raise.Given as goal

abbrev pub invariant-loop-i : goal.invariant-loop-i
invariant-loop-i l = Raised l.initial.boxes l.at l.n l.boxes l.i
