-- `whole_root::quotient_root` meets its contract. The loop's invariant is `Passed`.
use Rattle.float_whole_root.proofs.Digit.{Passed}
use Rattle.float_whole_root.proofs.quotient_root.Given as goal

abbrev pub invariant-loop : goal.invariant-loop
invariant-loop l = Passed l.n l.d l.q l.over l.left l.counter
