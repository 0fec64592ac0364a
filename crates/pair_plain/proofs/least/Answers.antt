use Rattle.std.proofs.Common.{arith}
use Rattle.pair_plain.proofs.Blockwise.{low_step}
use Rattle.pair_plain.proofs.least.Goals as goal

pub loop-x-preserved : goal.loop-x-preserved
loop-x-preserved c = rw c.lesser-low.ensures (low_step _ _ _ _ _ (omega arith) c.loop-x.invariant)
