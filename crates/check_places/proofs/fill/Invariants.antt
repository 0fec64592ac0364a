-- Place after place.
use Rattle.check_places.proofs.Filling.{Filling}
use Rattle.check_places.proofs.fill.Given as goal

abbrev pub invariant-loop-i : goal.invariant-loop-i
invariant-loop-i l = Filling l.width l.chain l.line l.turned l.from l.fits l.near l.s l.i
