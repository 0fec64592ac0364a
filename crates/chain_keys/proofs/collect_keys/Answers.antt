use Rattle.chain_keys.proofs.Laws.{both_step}
use Rattle.chain_keys.proofs.collect_keys.Goals as goal

pub loop-q-preserved : goal.loop-q-preserved
loop-q-preserved c = both_step _ _ _ _ _ _ _ _ _ _ _ _ c.loop-q.invariant c.requires c.loop-q-test.true _ c.put_both.ensures
