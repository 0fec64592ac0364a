use Rattle.pair_owners.proofs.Turns.{Grouping}
use Rattle.pair_owners.proofs.groups.Given as goal

abbrev pub invariant-loop-p : goal.invariant-loop-p
invariant-loop-p l = Grouping l.initial.w l.w l.d l.p l.m
