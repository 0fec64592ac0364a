-- After k lines those of them that pass through are chains: `Resting` says how, and its laws are the start, a line of either sort, and the end.
use mathlib.Core.Path.{sym, ◌∙◌}
use native.Mathlib.Omega.{arith}
use Rattle.build_layout.proofs.Resting.{resting_start, next_small, part_inside, resting_room, resting_passes, resting_plain, resting_done}
use Rattle.build_layout.proofs.lay_rest.Goals as goal
use Rattle.build_layout.proofs.lay_rest.Goals.{then-not-is_plain, else-not-is_plain}

pub loop-k-init : goal.loop-k-init
loop-k-init c =
    let a = c.args in
    λ y. resting_start a.width a.lines.now.counts.now a.lines.now.kinds.now a.lines.now.coordinates.now y.groups a.j a.m a.table.now a.members.now a.marks.now a.listing.now

pub overflow_mul-from : goal.overflow_mul-from
overflow_mul-from c =
    let y = c.requires in
    omega (arith, part_inside y (c.loop-k.invariant y) (omega arith))

pub overflow_mul-to : goal.overflow_mul-to
overflow_mul-to c =
    let y = c.requires in
    omega (arith, part_inside y (c.loop-k.invariant y) (omega arith))

pub overflow_add-to : goal.overflow_add-to
overflow_add-to c =
    let y = c.requires in
    omega (arith, part_inside y (c.loop-k.invariant y) (omega arith))

pub offset_bounds-lines-from : goal.offset_bounds-lines-from
offset_bounds-lines-from c =
    let y = c.requires in
    omega (arith, part_inside y (c.loop-k.invariant y) (omega arith))

pub slice_bounds-loop_mark-end : goal.slice_bounds-loop_mark-end
slice_bounds-loop_mark-end c =
    let y = c.requires in
    omega (arith, part_inside y (c.loop-k.invariant y) (omega arith))

pub lay_line-requires : goal.lay_line-requires
lay_line-requires c =
    let y = c.requires in
    resting_room y (c.loop-k.invariant y) (omega arith) (sym c.is_plain.ensures ∙ c.if-not-is_plain.true)

pub overflow_add-first : goal.overflow_add-first
overflow_add-first c =
    let y = c.requires in
    omega (arith, next_small y (c.loop-k.invariant y) (omega arith))

pub loop-k-preserved : goal.loop-k-preserved
loop-k-preserved c =
    let tested = sym c.is_plain.ensures in
    λ y. elim c.if-not-is_plain.branch [
      | then-not-is_plain w ↦
          resting_passes y (c.loop-k.invariant y) (omega arith) (tested ∙ w.if-not-is_plain.true) w.loop_mark-closed.ensures w.lay_line.ensures
          w.table-is w.members-is w.marks-is w.listing-is w.r-is
      | else-not-is_plain w ↦
          resting_plain y (c.loop-k.invariant y) (omega arith) (tested ∙ w.if-not-is_plain.false)
          w.table-is w.members-is w.marks-is w.listing-is w.r-is
    ]

pub returns : goal.returns
returns c = λ y. resting_done y (c.loop-k.invariant y) (omega arith)
