-- After each turn it is the extent of the points before the i-th number; the last four end it.
use Prim.Native.Nat.{◌-◌}
use lib.ListN.{length}
use Rattle.box_levels.proofs.Fours.{Reached}
use Rattle.box_levels.proofs.extent_of.Given as goal

abbrev pub invariant-loop-i : goal.invariant-loop-i
invariant-loop-i l = Reached l.width l.part l.all l.i

abbrev pub decreases-loop-i : goal.decreases-loop-i
decreases-loop-i l = length l.part - l.i
