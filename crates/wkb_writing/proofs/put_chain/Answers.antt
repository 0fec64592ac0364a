-- The chain is there, so that its row is in the table, and its view has room for a record of it.
use Prim.Native.Nat.{◌≤◌, ◌+◌, ◌*◌}
use native.Mathlib.Omega.{arith}
use lib.ListN.{length}
use Rattle.wkb_records.specs.Orders.{byte_of}
use Rattle.build_question.proofs.Laws.{stands}
use Rattle.wkb_writing.proofs.Chains.{view_room, chain_put}
use Rattle.rules.specs.Refusals.{record_size}
use Rattle.wkb_writing.proofs.put_chain.Goals as goal
use Rattle.wkb_writing.proofs.put_chain.Goals.{Start}

row : (s : Start) → s.args.k * record_size + record_size ≤ length s.args.table.now
row s = (stands _ _ _ _ _ s.requires.there).row

pub overflow_mul-count : goal.overflow_mul-count
overflow_mul-count c = omega (arith, row (goal.at.overflow_mul-count c).Start)

pub overflow_add-count : goal.overflow_add-count
overflow_add-count c = omega (arith, row (goal.at.overflow_add-count c).Start)

pub offset_bounds-table-k : goal.offset_bounds-table-k
offset_bounds-table-k c = omega (arith, row (goal.at.offset_bounds-table-k c).Start)

pub bounds-table-k : goal.bounds-table-k
bounds-table-k c = omega (arith, row (goal.at.bounds-table-k c).Start)

pub put_record-requires : goal.put_record-requires
put_record-requires c = view_room c.requires c.known_part-numbers.ensures

pub returns : goal.returns
returns c =
    chain_put c.requires (byte_of c.args.order) c.known_part-numbers.ensures c.put_record.ensures
