-- The loop's invariant is `Stacking`: the levels that are written, and the level reached.
use Rattle.box_levels.proofs.Stacked.{Stacking}
use Rattle.box_levels.proofs.raise_all.Given as goal

abbrev pub invariant-loop-n : goal.invariant-loop-n
invariant-loop-n l = Stacking l.initial.boxes l.k l.boxes l.at l.n

abbrev pub decreases-loop-n : goal.decreases-loop-n
decreases-loop-n l = l.n
