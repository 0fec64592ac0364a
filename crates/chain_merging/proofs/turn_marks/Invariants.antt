-- After i turns the first i marks stand turned from `at` on; those that are to be read lie beyond.
use Prim.Native.Nat.{◌≤◌, ◌+◌}
use mathlib.Core.Path.{◌≡◌}
use lib.ListN.{length, take}
use lib.Seq.{slice}
use Rattle.point_slices.specs.Holds.{HoldsFrom}
use Rattle.chain_merging.specs.Emit.{turned_by}
use Rattle.chain_merging.proofs.turn_marks.Given as goal

abbrev pub invariant-loop-i : goal.invariant-loop-i
invariant-loop-i l = (l.i ≤ l.count) × (length l.w ≡ length l.initial.w) × HoldsFrom l.w l.initial.w l.at l.i (take l.i (turned_by l.side (slice l.from (l.from + l.count) l.initial.w)))
