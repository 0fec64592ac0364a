-- From the last mark down: those that were passed are what the line makes of them, and the others as they were.
use Rattle.rules.specs.Plane.{points}
use Rattle.check_marks.proofs.Moving.{Moving}
use Rattle.check_marks.proofs.move_on.Given as goal

abbrev pub invariant-loop-j : goal.invariant-loop-j
invariant-loop-j l = Moving (points l.width l.chain) l.base l.low l.end l.drawn l.turned l.drawn_fits l.turned_fits l.initial.marks l.j l.marks
