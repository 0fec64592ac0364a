-- `build_admitted` does what the book's record says of a call without a refusal: the rounds, the layout, the boxes and the two clearings write each slice once.
use native.Mathlib.Omega.{arith}
use Rattle.build_chains.proofs.Built.{joinable, joinable_by, spare_long, layable, boxed, accepted}
use Rattle.build_chains.proofs.build_admitted.Goals as goal

pub join_lines-left-requires : goal.join_lines-left-requires
join_lines-left-requires c = (joinable_by _ _ _ _ c.requires c.width_of-width.ensures.0, spare_long _ _ _ _ c.requires)

pub overflow_mul-end : goal.overflow_mul-end
overflow_mul-end c = omega (arith, (joinable _ _ _ _ c.requires).few)

pub slice_bounds-lay_out-end : goal.slice_bounds-lay_out-end
slice_bounds-lay_out-end c = omega (arith, (joinable _ _ _ _ c.requires).workspace_long)

pub lay_out-number-requires : goal.lay_out-number-requires
lay_out-number-requires c = layable _ _ _ _ c.requires c.width_of-width.ensures.0 c.join_lines-left.ensures

pub lay_boxes-requires : goal.lay_boxes-requires
unfolding layable
lay_boxes-requires c =
    let z = c.requires in
    let w = c.width_of-width.ensures.0 in
    let l = c.join_lines-left.ensures in
    boxed _ _ _ _ z w l (c.lay_out-number.ensures (layable _ _ _ _ z w l))

pub clear-requires : goal.clear-requires
clear-requires c = omega (arith, spare_long _ _ _ _ c.requires)

pub returns : goal.returns
unfolding layable
returns c =
    let z = c.requires in
    let w = c.width_of-width.ensures.0 in
    let l = c.join_lines-left.ensures in
    accepted _ _ _ _ z w l (c.lay_out-number.ensures (layable _ _ _ _ z w l)) c.lay_boxes.ensures c.clear.ensures c.clear-2.ensures
