-- After j turns the boxes of the first j chains stand, and then come the levels above them.
use Prim.Native.Nat.{◌≤◌}
use Rattle.build_boxes.proofs.Laying.{Laid}
use Rattle.build_boxes.proofs.lay_boxes.Given as goal

abbrev pub invariant-loop-j : goal.invariant-loop-j
invariant-loop-j l = (l.j ≤ l.k) × Laid l.width l.input l.merged l.table l.initial.boxes l.boxes l.j
