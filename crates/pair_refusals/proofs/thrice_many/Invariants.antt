-- As in `thrice_few` no piece stands more than twice among the first i; these are in the table, so that all of a piece's earlier places are in its bucket's chain.
use Rattle.pair_refusals.proofs.Times.{Twice}
use Rattle.pair_refusals.proofs.Links.{Table}
use Rattle.pair_refusals.proofs.thrice_many.Given as goal

abbrev pub invariant-loop-i : goal.invariant-loop-i
invariant-loop-i l = Twice l.pieces l.i × Table l.pieces l.last l.next l.i
