-- After i turns the last i numbers of the part stand from `at` on, the last first; the part lies beyond, so that it is read as it was.
use lib.ListN.{take}
use mathlib.Core.List.{reverse}
use Prim.Native.Nat.{◌+◌}
use lib.Seq.{slice}
use Rattle.point_slices.specs.Holds.{HoldsFrom}
use Rattle.point_slices.proofs.copy_back.Given as goal

abbrev pub invariant-loop-i : goal.invariant-loop-i
invariant-loop-i l = HoldsFrom l.w l.initial.w l.at l.i (take l.i (reverse (slice l.from (l.from + l.n) l.initial.w)))
