-- The lines that were passed have their first coordinates, and the sum is that of the next.
use Rattle.check_lines.proofs.Numbers.{Placing}
use Rattle.check_lines.proofs.first_places.Given as goal

abbrev pub invariant-loop-i : goal.invariant-loop-i
invariant-loop-i l = Placing l.firsts l.counts l.sum l.i
