use Rattle.pair_indexed.proofs.Starting.{Pairing}
use Rattle.pair_indexed.proofs.fill.Given as goal

abbrev pub invariant-loop-p : goal.invariant-loop-p
invariant-loop-p l = Pairing l.initial.w l.w l.d l.plan.index.height l.plan.slots l.plan.limit l.p
