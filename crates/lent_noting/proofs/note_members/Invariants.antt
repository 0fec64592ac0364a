-- `note_members`: the first i lines are plain, of the group and without a mark before, each once, and have 1; so a line met again has a mark.
use Rattle.lent_noting.proofs.Marks.{Noting}
use Rattle.lent_noting.proofs.note_members.Given as goal

abbrev pub invariant-loop-i : goal.invariant-loop-i
invariant-loop-i l = Noting l.seen l.initial.seen l.counts l.groups l.kinds l.group l.lines l.marks l.i
