-- `finish_admitted` does what the book's record says of a second call without a refusal: the lent pieces are taken in, round two, the layout, the boxes and the
-- clearing write each slice once.
use mathlib.Core.Path.{◌∙◌}
use native.Mathlib.Omega.{arith}
use Rattle.lent_calls.proofs.SecondCall.{few, workspace_long, taking, second, layable, boxed, accepted}
use Rattle.lent_calls.proofs.finish_admitted.Goals as goal

pub take_pieces-taken-requires : goal.take_pieces-taken-requires
take_pieces-taken-requires c = taking _ _ _ _ _ c.requires

pub join_again-left-requires : goal.join_again-left-requires
join_again-left-requires c = second _ _ _ _ _ c.requires c.width_of-width.ensures.0 c.take_pieces-taken.ensures

pub overflow_mul-end : goal.overflow_mul-end
overflow_mul-end c = omega (arith, few _ _ _ _ _ c.requires)

pub slice_bounds-lay_out-end : goal.slice_bounds-lay_out-end
slice_bounds-lay_out-end c = omega (arith, workspace_long _ _ _ _ _ c.requires, c.take_pieces-taken.auto.w, c.join_again-left.auto.workspace)

pub lay_out-number-requires : goal.lay_out-number-requires
unfolding second
lay_out-number-requires c =
    let z = c.requires in
    let w = c.width_of-width.ensures.0 in
    let t = c.take_pieces-taken.ensures in
    layable _ _ _ _ _ z w t (c.join_again-left.ensures (second _ _ _ _ _ z w t))

pub lay_boxes-requires : goal.lay_boxes-requires
unfolding second layable
lay_boxes-requires c =
    let z = c.requires in
    let w = c.width_of-width.ensures.0 in
    let t = c.take_pieces-taken.ensures in
    let l = c.join_again-left.ensures (second _ _ _ _ _ z w t) in
    boxed _ _ _ _ _ z w t l (c.lay_out-number.ensures (layable _ _ _ _ _ z w t l))

pub clear-requires : goal.clear-requires
clear-requires c = omega (arith, workspace_long _ _ _ _ _ c.requires, c.take_pieces-taken.auto.w, c.join_again-left.auto.workspace)

pub shape_of-workspace : goal.shape_of-workspace
shape_of-workspace c = c.clear.auto.w ∙ c.join_again-left.auto.workspace ∙ c.take_pieces-taken.auto.w

pub returns : goal.returns
unfolding second layable
returns c =
    let z = c.requires in
    let w = c.width_of-width.ensures.0 in
    let t = c.take_pieces-taken.ensures in
    let l = c.join_again-left.ensures (second _ _ _ _ _ z w t) in
    accepted _ _ _ _ _ z w t l (c.lay_out-number.ensures (layable _ _ _ _ _ z w t l)) c.lay_boxes.ensures c.clear.ensures
