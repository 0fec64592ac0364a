-- After j turns the bytes of the first j pairs of numbers stand from `at` on.
use Prim.Native.Nat.{◌*◌}
use Rattle.wkb_records.specs.Orders.{byte_of}
use Rattle.wkb_writing.proofs.Laws.{Begun}
use Rattle.wkb_writing.proofs.put_numbers.Given as goal

abbrev pub invariant-loop-j : goal.invariant-loop-j
invariant-loop-j l = Begun l.run l.initial.run l.numbers (byte_of l.order) l.at (l.j * 2)
