-- The line is read from its beginning, or from its end where it is turned; a point is dropped, or kept where it stands, or ends the run. What is left is the measure.
use Rattle.check_places.proofs.Reading.{Reading}
use Rattle.check_places.proofs.reach.Given as goal

abbrev pub invariant-loop-left : goal.invariant-loop-left
invariant-loop-left l = Reading l.width l.chain l.line l.turned l.at l.c l.points l.kept l.left

abbrev pub decreases-loop-left : goal.decreases-loop-left
decreases-loop-left l = l.left
