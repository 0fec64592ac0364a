use Rattle.std.proofs.Common.{arith}
use Rattle.pair_plain.proofs.Starting.{level_step}
use Rattle.pair_plain.proofs.settle_all.Goals as goal

pub loop-b-preserved : goal.loop-b-preserved
loop-b-preserved c = level_step _ _ _ _ _ (omega (arith, c.requires.long)) (omega arith) c.loop-b.invariant c.settle.ensures
