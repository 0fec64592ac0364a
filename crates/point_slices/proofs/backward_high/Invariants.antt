-- The loop is on the way to the whole run: the points of the first i numbers are left, from the last on, each turn lays one of them, and the x of the last point
-- laid is at hand.
use Prim.Native.Nat.{◌+◌, ◌-◌, ◌≤◌}
use mathlib.Core.Path.{◌≡◌}
use mathlib.Core.List.{reverse}
use lib.ListN.{length, take}
use Rattle.rules.specs.Plane.{points}
use Rattle.point_numbers.specs.Width.{Multiple}
use Rattle.point_slices.specs.Run.{laid, Near}
use Rattle.point_slices.proofs.Runs.{Way}
use Rattle.point_slices.proofs.backward_high.Given as goal

abbrev pub invariant-loop-i : goal.invariant-loop-i
invariant-loop-i l =
    (l.i + l.width ≤ length l.src) × (l.width ≤ l.h) × (l.h + l.i ≤ length l.initial.rest) × (length l.rest ≡ length l.initial.rest) × Way l.width (laid l.width (take l.initial.h l.initial.rest) (reverse (points l.width (take (length l.src - l.width) l.src)))) l.initial.rest (reverse (points l.width (take l.i l.src))) l.rest l.h × Multiple l.width l.i × Near l.width l.rest l.h l.last

abbrev pub decreases-loop-i : goal.decreases-loop-i
decreases-loop-i l = l.i
