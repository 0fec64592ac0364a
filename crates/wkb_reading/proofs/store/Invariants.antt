-- The loop keeps `Storing`; each step stores one record.
use Rattle.wkb_reading.proofs.Storing.{Storing}
use Rattle.wkb_reading.proofs.store.Given as goal

abbrev pub invariant-loop-i : goal.invariant-loop-i
invariant-loop-i l = Storing l.run l.lengths l.initial.coordinates l.initial.counts l.coordinates l.counts l.at l.have l.i
