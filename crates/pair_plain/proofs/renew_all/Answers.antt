use Rattle.pair_plain.proofs.Starting.{walkable, rows_step}
use Rattle.pair_plain.proofs.renew_all.Goals as goal

pub renew-requires : goal.renew-requires
renew-requires c = walkable _ _ _ _ c.loop-i.auto.w c.requires c.loop-i.invariant.others _ c.loop-i-test.true

pub loop-i-preserved : goal.loop-i-preserved
loop-i-preserved c = rows_step _ _ _ _ c.loop-i.auto.w c.requires c.loop-i.invariant.others _ _ c.loop-i-test.true c.loop-i.invariant c.renew.ensures
