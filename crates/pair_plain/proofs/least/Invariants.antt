-- The loop keeps the least of the keys passed.
use Rattle.pair_plain.specs.Lows.{IsLow}
use Rattle.pair_plain.proofs.least.Given as goal

abbrev pub invariant-loop-x : goal.invariant-loop-x
invariant-loop-x l = IsLow l.w l.at l.from l.x l.low
