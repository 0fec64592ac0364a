-- One point more at each turn: the box so far, grown by the points to come, is the box of all.
use Prim.Native.Nat.{◌-◌}
use lib.ListN.{length}
use Rattle.box_levels.proofs.Points.{Grown}
use Rattle.box_levels.proofs.of_few.Given as goal

abbrev pub invariant-loop-i : goal.invariant-loop-i
invariant-loop-i l = Grown l.width l.part l.all l.i

abbrev pub decreases-loop-i : goal.decreases-loop-i
decreases-loop-i l = length l.part - l.i
