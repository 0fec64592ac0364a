-- `first_admitted` does what the book's record says of a first call without a refusal: round one, its pieces as they are lent, and the clearing.
use native.Mathlib.Omega.{arith}
use lib.Ieee.{of_bits}
use Rattle.lent_calls.proofs.Pieces.{small_pieces}
use Rattle.lent_calls.proofs.FirstCall.{few, workspace_long, joinable, leavable, accepted}
use Rattle.lent_calls.proofs.first_admitted.Goals as goal

pub round_one-left-requires : goal.round_one-left-requires
unfolding of_bits
round_one-left-requires c = joinable _ _ _ _ _ c.requires c.width_of-width.ensures.0

pub overflow_mul-end : goal.overflow_mul-end
overflow_mul-end c = omega (arith, few _ _ _ _ _ c.requires)

pub offset_bounds-workspace-at : goal.offset_bounds-workspace-at
offset_bounds-workspace-at c = omega (arith, few _ _ _ _ _ c.requires, c.round_one-left.ensures.1)

pub slice_bounds-leave_pieces-end : goal.slice_bounds-leave_pieces-end
slice_bounds-leave_pieces-end c = omega (arith, workspace_long _ _ _ _ _ c.requires)

pub leave_pieces-requires : goal.leave_pieces-requires
unfolding of_bits
leave_pieces-requires c = leavable _ _ _ _ _ c.requires c.width_of-width.ensures.0 c.round_one-left.ensures.0 c.round_one-left.ensures.2

pub clear-requires : goal.clear-requires
clear-requires c = omega (arith, workspace_long _ _ _ _ _ c.requires)

pub returns : goal.returns
unfolding leavable small_pieces of_bits
returns c =
    let z = c.requires in
    let w = c.width_of-width.ensures.0 in
    let one = c.round_one-left in
    accepted _ _ _ _ _ z w one.ensures.0 one.ensures.2 (c.leave_pieces.ensures (leavable _ _ _ _ _ z w one.ensures.0 one.ensures.2)) c.clear.ensures
