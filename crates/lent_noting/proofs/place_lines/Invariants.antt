-- `place_lines`: the places of the first i lines are the sums of the counts before them, and the sum is that of the counts passed.
use Rattle.lent_noting.proofs.Marks.{Placing}
use Rattle.lent_noting.proofs.place_lines.Given as goal

abbrev pub invariant-loop-i : goal.invariant-loop-i
invariant-loop-i l = Placing l.places l.counts l.sum l.i
