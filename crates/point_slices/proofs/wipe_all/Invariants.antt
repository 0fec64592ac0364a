-- After k turns the first 32 k numbers are zero.
use Prim.Native.Nat.{◌*◌}
use lib.ListN.{replicate}
use Rattle.point_slices.specs.Holds.{HoldsFrom}
use Rattle.point_slices.proofs.wipe_all.Given as goal

abbrev pub invariant-loop-k : goal.invariant-loop-k
invariant-loop-k l = HoldsFrom l.w l.initial.w 0 (l.k * 32) (replicate (l.k * 32) 0)
