-- After i turns the first i words stand at the beginning of the pairs; each is below 2 ^ 32, so that the narrower number keeps it.
use Prim.Native.Nat.{◌+◌}
use lib.ListN.{take}
use lib.Seq.{slice}
use Rattle.point_slices.specs.Holds.{HoldsFrom}
use Rattle.pair_lending.proofs.take_pairs.Given as goal

abbrev pub invariant-loop-i : goal.invariant-loop-i
invariant-loop-i l = HoldsFrom l.pairs l.initial.pairs 0 l.i (take l.i (slice l.at (l.at + l.n) l.w))
