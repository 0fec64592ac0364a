-- Point by point, as long as both are equal.
use Rattle.check_places.proofs.Stretching.{Stretching}
use Rattle.check_places.proofs.stretch.Given as goal

abbrev pub invariant-loop-k : goal.invariant-loop-k
invariant-loop-k l = Stretching l.width l.chain l.i l.best l.count l.k
