-- The numbers before the piece and its own are few (`few`), so that no index overflows, and both ends of the part lie inside the slice of its source.
use Prim.Native.Nat.{◌+◌, ◌*◌, ◌≤◌}
use native.Mathlib.Omega.{arith}
use native.Mathlib.Nat.{add-mul}
use Rattle.chain_pieces.proofs.Source.{within_input, within_spare, parts_bound, part_input, part_spare}
use Rattle.chain_pieces.proofs.coordinates_of.Goals as goal
use Rattle.chain_pieces.proofs.coordinates_of.Goals.{After-read-r}

few : (s : After-read-r) → s.read-r.result.point * s.args.width + s.read-r.result.points * s.args.width ≤ 1152921504606846976
few s =
    let a = s.args in
    parts_bound a.width a.w.now a.p a.input.now a.copies.now s.read-r.result s.read-r.ensures s.requires 1152921504606846976 (omega arith) (omega arith)

pub overflow_mul-from : goal.overflow_mul-from
overflow_mul-from c = omega (arith, few (goal.at.overflow_mul-from c).After-read-r)

pub overflow_mul-to : goal.overflow_mul-to
overflow_mul-to c = omega (arith, few (goal.at.overflow_mul-to c).After-read-r)

pub overflow_add-to : goal.overflow_add-to
overflow_add-to c = omega (arith, few (goal.at.overflow_add-to c).After-read-r)

pub offset_bounds-input-from : goal.offset_bounds-input-from
offset_bounds-input-from c = omega (arith, few (goal.at.offset_bounds-input-from c).After-read-r)

pub slice_bounds-result-end : goal.slice_bounds-result-end
slice_bounds-result-end c =
    let a = c.args in
    let r = c.read-r.result in
    omega (arith, within_input a.width a.w.now a.p a.input.now a.copies.now r c.read-r.ensures c.requires c.if-r-eq0.true, add-mul r.point r.points a.width)

pub offset_bounds-copies-from : goal.offset_bounds-copies-from
offset_bounds-copies-from c = omega (arith, few (goal.at.offset_bounds-copies-from c).After-read-r)

pub slice_bounds-result-end-else-r-eq0 : goal.slice_bounds-result-end-else-r-eq0
slice_bounds-result-end-else-r-eq0 c =
    let a = c.args in
    let r = c.read-r.result in
    omega (arith, within_spare a.width a.w.now a.p a.input.now a.copies.now r c.read-r.ensures c.requires c.if-r-eq0.false, add-mul r.point r.points a.width)

pub returns-then-r-eq0 : goal.returns-then-r-eq0
returns-then-r-eq0 c = let a = c.args in part_input a.width a.w.now a.p a.input.now a.copies.now c.read-r.result c.read-r.ensures c.if-r-eq0.true

pub returns-else-r-eq0 : goal.returns-else-r-eq0
returns-else-r-eq0 c = let a = c.args in part_spare a.width a.w.now a.p a.input.now a.copies.now c.read-r.result c.read-r.ensures c.if-r-eq0.false
