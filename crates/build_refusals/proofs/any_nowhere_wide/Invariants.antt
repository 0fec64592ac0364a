-- `any_nowhere_wide` tells whether a point is no place: the sign's place of what the xs passed have made is taken where one of them is none, that of the ys
-- likewise, and beside them stand the points that are left.
use Rattle.std.proofs.Common.{◌≡◌, ◌^◌, ◌<◌}
use Rattle.std.specs.Slice.Iter.{chunks_exact_rest, chunks_exact_size}
use Rattle.rules.specs.Plane.{points}
use Rattle.rules.specs.Refusals.{any_nowhere}
use Rattle.build_refusals.proofs.Places.{told}
use Rattle.build_refusals.proofs.any_nowhere_wide.Given as goal

abbrev pub invariant-loop-point : goal.invariant-loop-point
invariant-loop-point l =
    (chunks_exact_size l.point-iterator ≡ l.fn.width)
    × (l.any_x < 2 ^ 64)
    × (l.any_y < 2 ^ 64)
    × (told l.any_x l.any_y (points l.fn.width (chunks_exact_rest l.point-iterator)) ≡ any_nowhere (points l.fn.width l.numbers))
