-- The loop's invariant: the box is that around the directions passed.
use mathlib.Core.Path.{◌≡◌}
use Rattle.pair_ends.specs.Ends.{direction_at}
use Rattle.pair_all_directions.specs.Around.{around_of}
use Rattle.pair_all_directions.proofs.around.Given as goal

abbrev pub invariant-loop-e : goal.invariant-loop-e
invariant-loop-e l = l.b ≡ around_of (direction_at l.w l.d) l.e
