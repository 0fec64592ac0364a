-- `direction::from_last` meets its contract. What is still to be searched, the points of the first i numbers in reverse, gives the direction that is sought; the measure is i.
use mathlib.Core.Path.{◌≡◌}
use mathlib.Core.List.{reverse}
use Prim.Native.Nat.{◌+◌, ◌≤◌}
use lib.ListN.{length, take}
use Rattle.rules.specs.Plane.{point, points, direction_of}
use Rattle.point_numbers.specs.Width.{Multiple}
use Rattle.point_direction.proofs.Points.{sought}
use Rattle.point_direction.proofs.from_last.Given as goal

abbrev pub invariant-loop-i : goal.invariant-loop-i
invariant-loop-i l =
    (l.i + l.width ≤ length l.c) × Multiple l.width l.i × (sought (point l.x l.y) (reverse (points l.width (take l.i l.c))) ≡ direction_of (reverse (points l.width l.c)))

abbrev pub decreases-loop-i : goal.decreases-loop-i
decreases-loop-i l = l.i
