-- The marks are how often each line was listed so far.
use Rattle.check_lines.proofs.Once.{Noting}
use Rattle.check_lines.proofs.note.Given as goal

abbrev pub invariant-loop-y : goal.invariant-loop-y
invariant-loop-y l = Noting l.seen l.initial.seen l.listed l.y-index
