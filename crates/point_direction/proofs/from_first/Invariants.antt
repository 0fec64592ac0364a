-- `direction::from_first` meets its contract. What is still to be searched, the points from the i-th number on, gives the direction that is sought; the measure is what is left of the length.
use mathlib.Core.Path.{◌≡◌}
use Prim.Native.Nat.{◌-◌, ◌≤◌}
use lib.ListN.{length, drop}
use Rattle.rules.specs.Plane.{point, points, direction_of}
use Rattle.point_numbers.specs.Width.{Multiple}
use Rattle.point_direction.proofs.Points.{sought}
use Rattle.point_direction.proofs.from_first.Given as goal

abbrev pub invariant-loop-i : goal.invariant-loop-i
invariant-loop-i l =
    (l.i ≤ length l.c) × Multiple l.width (length l.c - l.i) × (sought (point l.x l.y) (points l.width (drop l.i l.c)) ≡ direction_of (points l.width l.c))

abbrev pub decreases-loop-i : goal.decreases-loop-i
decreases-loop-i l = length l.c - l.i
