-- What is left of the room and all bytes are the room and the bytes from chain j on.
use Prim.Native.Nat.{◌+◌, ◌-◌, ◌≤◌}
use mathlib.Core.Path.{◌≡◌}
use Rattle.wkb_writing.specs.Writing.{bytes_from}
use Rattle.wkb_writing.proofs.run_short.Given as goal

abbrev pub invariant-loop-j : goal.invariant-loop-j
invariant-loop-j l = (l.left ≤ l.room) × (l.left + bytes_from l.width l.table 0 l.k ≡ l.room + bytes_from l.width l.table l.j (l.k - l.j))
