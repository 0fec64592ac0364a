-- The loop is on the way to the whole run: the points from i on are left, each turn lays one of them, and the x of the last point laid is at hand.
use Prim.Native.Nat.{◌+◌, ◌-◌, ◌≤◌}
use mathlib.Core.Path.{◌≡◌}
use lib.ListN.{length, take, drop}
use Rattle.rules.specs.Plane.{points}
use Rattle.point_slices.specs.Run.{laid, Near}
use Rattle.point_slices.proofs.Runs.{Way}
use Rattle.point_slices.proofs.forward_two.Given as goal

abbrev pub invariant-loop-i : goal.invariant-loop-i
invariant-loop-i l =
    (2 ≤ l.i) × (l.i ≤ length l.src) × (l.w + length l.src ≤ length l.initial.rest + l.i) × (length l.rest ≡ length l.initial.rest) × Way 2 (laid 2 (take l.initial.w l.initial.rest) (points 2 (drop 2 l.src))) l.initial.rest (points 2 (drop l.i l.src)) l.rest l.w × Near 2 l.rest l.w l.last

abbrev pub decreases-loop-i : goal.decreases-loop-i
decreases-loop-i l = length l.src - l.i
