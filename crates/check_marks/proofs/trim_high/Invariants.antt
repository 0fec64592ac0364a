-- From `end` down, none of the marks that were passed is there.
use Rattle.check_marks.proofs.Trimming.{Gone}
use Rattle.check_marks.proofs.trim_high.Given as goal

abbrev pub invariant-loop-i : goal.invariant-loop-i
invariant-loop-i l = Gone l.marks l.i l.end
