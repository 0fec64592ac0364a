-- After i turns the first i numbers of `src` stand from `at` on.
use lib.ListN.{take}
use Rattle.point_slices.specs.Holds.{HoldsFrom}
use Rattle.point_slices.proofs.copy_into.Given as goal

abbrev pub invariant-loop-i : goal.invariant-loop-i
invariant-loop-i l = HoldsFrom l.dst l.initial.dst l.at l.i (take l.i l.src)
