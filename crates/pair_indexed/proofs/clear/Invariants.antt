use Rattle.pair_indexed.proofs.Planting.{Clearing}
use Rattle.pair_indexed.proofs.clear.Given as goal

abbrev pub invariant-loop-s : goal.invariant-loop-s
invariant-loop-s l = Clearing l.initial.w l.w l.d l.slots l.s
