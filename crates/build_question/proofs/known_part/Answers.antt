-- Where there is such a chain, its record is in the table and its coordinates are in the slice of its source (`stood`), so that every index and both ends of
-- the part lie inside.
use Prim.Native.Nat.{◌+◌, ◌*◌}
use mathlib.Core.Path.{◌≡◌}
use native.Mathlib.Omega.{arith}
use native.Mathlib.Nat.{add-mul}
use Rattle.rules.specs.Refusals.{entry}
use Rattle.build_question.proofs.Laws.{Stands, stands, part_input, part_merged, inside_input, inside_merged, one}
use Rattle.build_question.proofs.known_part.Goals as goal
use Rattle.build_question.proofs.known_part.Goals.{Start}

stood : (c : Start) → Stands c.args.width c.args.input.now c.args.merged.now c.args.table.now c.args.k
stood c = stands _ _ _ _ _ c.requires.1

-- the numbers before the chain and its own, and both together
both : (c : Start) → let a = c.args in
    (entry a.table.now a.k 3 + entry a.table.now a.k 4) * a.width
    ≡ entry a.table.now a.k 3 * a.width + entry a.table.now a.k 4 * a.width
both c = let a = c.args in add-mul (entry a.table.now a.k 3) (entry a.table.now a.k 4) a.width

pub overflow_mul-from : goal.overflow_mul-from
overflow_mul-from c = let s = stood (goal.at.overflow_mul-from c).Start in omega arith

pub overflow_add-from : goal.overflow_add-from
overflow_add-from c = let s = stood (goal.at.overflow_add-from c).Start in omega arith

pub offset_bounds-table-k : goal.offset_bounds-table-k
offset_bounds-table-k c = let s = stood (goal.at.offset_bounds-table-k c).Start in omega arith

pub bounds-table-k : goal.bounds-table-k
bounds-table-k c = let s = stood (goal.at.bounds-table-k c).Start in omega arith

pub overflow_mul-to : goal.overflow_mul-to
overflow_mul-to c = let s = stood (goal.at.overflow_mul-to c).Start in omega arith

pub overflow_add-to : goal.overflow_add-to
overflow_add-to c = let s = stood (goal.at.overflow_add-to c).Start in omega arith

pub offset_bounds-table-k-2 : goal.offset_bounds-table-k-2
offset_bounds-table-k-2 c = let s = stood (goal.at.offset_bounds-table-k-2 c).Start in omega arith

pub bounds-table-k-2 : goal.bounds-table-k-2
bounds-table-k-2 c = let s = stood (goal.at.bounds-table-k-2 c).Start in omega arith

pub overflow_mul-k : goal.overflow_mul-k
overflow_mul-k c = let s = stood (goal.at.overflow_mul-k c).Start in omega arith

pub overflow_add-k : goal.overflow_add-k
overflow_add-k c = let s = stood (goal.at.overflow_add-k c).Start in omega arith

pub offset_bounds-table-k-3 : goal.offset_bounds-table-k-3
offset_bounds-table-k-3 c = let s = stood (goal.at.offset_bounds-table-k-3 c).Start in omega arith

pub bounds-table-k-3 : goal.bounds-table-k-3
bounds-table-k-3 c = let s = stood (goal.at.bounds-table-k-3 c).Start in omega arith

pub offset_bounds-input-from : goal.offset_bounds-input-from
offset_bounds-input-from c = let z = stood (goal.at.offset_bounds-input-from c).Start in omega (arith, both (goal.at.offset_bounds-input-from c).Start, inside_input _ _ _ _ _ z c.if-table-k-eq0.true)

pub slice_bounds-result-end : goal.slice_bounds-result-end
slice_bounds-result-end c = let z = stood (goal.at.slice_bounds-result-end c).Start in omega (arith, both (goal.at.slice_bounds-result-end c).Start, inside_input _ _ _ _ _ z c.if-table-k-eq0.true)

pub returns-then-table-k-eq0 : goal.returns-then-table-k-eq0
returns-then-table-k-eq0 c = part_input _ _ _ _ _ c.requires.1 c.if-table-k-eq0.true

pub offset_bounds-merged-from : goal.offset_bounds-merged-from
offset_bounds-merged-from c = let z = stood (goal.at.offset_bounds-merged-from c).Start in omega (arith, both (goal.at.offset_bounds-merged-from c).Start, inside_merged _ _ _ _ _ z (one z c.if-table-k-eq0.false))

pub slice_bounds-result-end-else-table-k-eq0 : goal.slice_bounds-result-end-else-table-k-eq0
slice_bounds-result-end-else-table-k-eq0 c = let z = stood (goal.at.slice_bounds-result-end-else-table-k-eq0 c).Start in omega (arith, both (goal.at.slice_bounds-result-end-else-table-k-eq0 c).Start, inside_merged _ _ _ _ _ z (one z c.if-table-k-eq0.false))

pub returns-else-table-k-eq0 : goal.returns-else-table-k-eq0
returns-else-table-k-eq0 c = part_merged _ _ _ _ _ c.requires.1 (one (stood (goal.at.returns-else-table-k-eq0 c).Start) c.if-table-k-eq0.false)
