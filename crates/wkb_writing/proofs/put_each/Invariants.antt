-- After i turns the bytes of the first i numbers stand from `at` on.
use Rattle.wkb_records.specs.Orders.{byte_of}
use Rattle.wkb_writing.proofs.Laws.{Begun}
use Rattle.wkb_writing.proofs.put_each.Given as goal

abbrev pub invariant-loop-i : goal.invariant-loop-i
invariant-loop-i l = Begun l.run l.initial.run l.numbers (byte_of l.order) l.at l.i
