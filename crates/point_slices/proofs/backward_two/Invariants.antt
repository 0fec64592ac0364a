-- The loop is on the way to the whole run: the first k points are left, from the last on, each turn lays one of them, and the x of the last point laid is at hand.
use Prim.Native.Nat.{◌+◌, ◌-◌, ◌/◌, ◌≤◌, ◌<◌}
use mathlib.Core.Path.{◌≡◌}
use lib.ListN.{length, take}
use mathlib.Core.List.{reverse}
use Rattle.rules.specs.Plane.{points}
use Rattle.point_slices.specs.Run.{laid, Near}
use Rattle.point_slices.proofs.Runs.{Way}
use Rattle.point_slices.proofs.backward_two.Given as goal

abbrev pub invariant-loop-k : goal.invariant-loop-k
invariant-loop-k l =
    (l.k < length l.src / 2) × (l.w + (l.k + l.k) ≤ length l.initial.rest) × (length l.rest ≡ length l.initial.rest) × Way 2 (laid 2 (take l.initial.w l.initial.rest) (reverse (take (length l.src / 2 - 1) (points 2 l.src)))) l.initial.rest (reverse (take l.k (points 2 l.src))) l.rest l.w × Near 2 l.rest l.w l.last

abbrev pub decreases-loop-k : goal.decreases-loop-k
decreases-loop-k l = l.k
