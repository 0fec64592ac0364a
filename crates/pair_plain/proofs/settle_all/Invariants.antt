-- The loop keeps the blocks passed.
use Rattle.pair_plain.proofs.Starting.{LevelTo}
use Rattle.pair_plain.proofs.settle_all.Given as goal

abbrev pub invariant-loop-b : goal.invariant-loop-b
invariant-loop-b l = LevelTo l.initial.w l.d l.b l.w
