-- The loop keeps the rows passed.
use Rattle.pair_plain.specs.Steps.{Rows}
use Rattle.pair_plain.proofs.renew_all.Given as goal

abbrev pub invariant-loop-i : goal.invariant-loop-i
invariant-loop-i l = Rows l.initial.w l.d l.limit l.i l.w
