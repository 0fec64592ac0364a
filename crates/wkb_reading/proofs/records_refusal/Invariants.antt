-- The refusal of the run is that of the records that are left, which begin at `at`.
use mathlib.Core.Path.{◌≡◌}
use Prim.Native.Nat.{◌+◌}
use lib.ListN.{length, drop}
use Rattle.rules.specs.Lists.{total}
use Rattle.rules.specs.Wkb.{records_of, records_refusal}
use Rattle.wkb_reading.proofs.records_refusal.Given as goal

abbrev pub invariant-loop-next : goal.invariant-loop-next
invariant-loop-next l =
    (l.at + total (drop l.next-index l.lengths) ≡ length l.run)
    × (records_refusal l.wkb_type (records_of l.lengths l.run) ≡ records_refusal l.wkb_type (records_of (drop l.next-index l.lengths) (drop l.at l.run)))
