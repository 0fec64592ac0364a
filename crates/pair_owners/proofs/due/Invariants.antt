use Rattle.pair_owners.proofs.Turns.{Looking}
use Rattle.pair_owners.proofs.due.Given as goal

abbrev pub invariant-loop-c : goal.invariant-loop-c
invariant-loop-c l = Looking l.w l.d l.g l.from l.c
