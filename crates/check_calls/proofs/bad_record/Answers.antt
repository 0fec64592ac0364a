-- The tests one after another.
use native.Mathlib.Omega.{arith}
use Prim.Native.Nat.{◌+◌, ◌*◌, ◌≤◌}
use mathlib.Core.Path.{sym, ◌∙◌}
use lib.ListN.{length}
use borrow.Author.Tests.{lt-ltb}
use Rattle.rules.specs.Refusals.{record_size}
use Rattle.check_calls.proofs.Records.{bad_chain, bad_reach, bad_line, row_inside}
use Rattle.check_calls.proofs.bad_record.Goals as goal
use Rattle.check_calls.proofs.bad_record.Goals.{Else-no_chain}

row : (c : Else-no_chain) → c.args.k * record_size + record_size ≤ length c.args.chains.now.table.now
row c =
    let a = c.args in
    let d = a.chains.now in
    row_inside a.width a.n a.coordinates.now d.merged.now d.table.now d.listing.now a.k (sym c.no_chain.ensures ∙ c.if-no_chain.false)

pub returns-then-no_chain : goal.returns-then-no_chain
returns-then-no_chain c =
    let a = c.args in
    let d = a.chains.now in
    bad_chain a.width a.n a.coordinates.now d.merged.now d.table.now d.listing.now a.k c.no_chain.result c.no_chain.ensures c.if-no_chain.true

pub overflow_mul-from : goal.overflow_mul-from
overflow_mul-from c = omega (arith, row (goal.at.overflow_mul-from c).Else-no_chain)

pub offset_bounds-chains-k : goal.offset_bounds-chains-k
offset_bounds-chains-k c = omega (arith, row (goal.at.offset_bounds-chains-k c).Else-no_chain)

pub bounds-chains-k : goal.bounds-chains-k
bounds-chains-k c = omega (arith, row (goal.at.bounds-chains-k c).Else-no_chain)

pub overflow_mul-to : goal.overflow_mul-to
overflow_mul-to c = omega (arith, row (goal.at.overflow_mul-to c).Else-no_chain)

pub overflow_add-to : goal.overflow_add-to
overflow_add-to c = omega (arith, row (goal.at.overflow_add-to c).Else-no_chain)

pub offset_bounds-chains-k-2 : goal.offset_bounds-chains-k-2
offset_bounds-chains-k-2 c = omega (arith, row (goal.at.offset_bounds-chains-k-2 c).Else-no_chain)

pub bounds-chains-k-2 : goal.bounds-chains-k-2
bounds-chains-k-2 c = omega (arith, row (goal.at.bounds-chains-k-2 c).Else-no_chain)

pub returns-then-chains-to : goal.returns-then-chains-to
returns-then-chains-to c =
    let a = c.args in
    let d = a.chains.now in
    lt-ltb _ _ c.if-chains-to.true ∙ bad_reach a.width a.n a.coordinates.now d.merged.now d.table.now d.listing.now a.k c.no_chain.result c.no_chain.ensures c.if-no_chain.false c.if-chains-to.true

pub returns-else-chains-to : goal.returns-else-chains-to
returns-else-chains-to c =
    let a = c.args in
    let d = a.chains.now in
    bad_line a.width a.n a.coordinates.now d.merged.now d.table.now d.listing.now a.k c.no_chain.result c.any_beyond.result c.no_chain.ensures c.if-no_chain.false c.if-chains-to.false c.any_beyond.ensures
