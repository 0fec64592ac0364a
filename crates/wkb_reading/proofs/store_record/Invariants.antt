-- After k turns the first k numbers behind the header stand from `at` on.
use lib.ListN.{take}
use mathlib.Core.List.{map}
use Rattle.point_slices.specs.Holds.{HoldsFrom}
use Rattle.wkb_records.specs.Orders.{number_in}
use Rattle.wkb_reading.proofs.store_record.Given as goal

abbrev pub invariant-loop-k : goal.invariant-loop-k
invariant-loop-k l = HoldsFrom l.coordinates l.initial.coordinates l.at l.k (map (number_in l.order) (take l.k l.eights))
