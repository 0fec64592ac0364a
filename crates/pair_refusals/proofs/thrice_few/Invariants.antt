-- No piece stands more than twice among the first i, as long as each was met at most once before its place.
use Rattle.pair_refusals.proofs.Times.{Twice}
use Rattle.pair_refusals.proofs.thrice_few.Given as goal

abbrev pub invariant-loop-i : goal.invariant-loop-i
invariant-loop-i l = Twice l.pieces l.i
