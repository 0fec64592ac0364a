-- The loop's invariant is `Rising`; the levels' boxes grow fewer.
use Rattle.box_window.proofs.Rising.{Rising}
use Rattle.box_window.proofs.starts_of.Given as goal

abbrev pub invariant-loop-n : goal.invariant-loop-n
invariant-loop-n l = Rising l.k l.starts l.n l.level l.at

abbrev pub decreases-loop-n : goal.decreases-loop-n
decreases-loop-n l = l.n
