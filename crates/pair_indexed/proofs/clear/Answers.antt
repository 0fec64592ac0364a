use Rattle.pair_indexed.proofs.Planting.{clearing_next}
use Rattle.pair_indexed.proofs.clear.Goals as goal

pub loop-s-preserved : goal.loop-s-preserved
loop-s-preserved c = clearing_next c.requires c.loop-s.invariant c.loop-s-test.true c.none.ensures c.put.ensures
