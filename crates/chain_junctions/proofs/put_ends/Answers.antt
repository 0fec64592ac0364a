use Rattle.std.proofs.Common.{refl}
use Rattle.chain_junctions.specs.Junction.{way_at}
use Rattle.chain_junctions.proofs.Laws.{ending_step}
use Rattle.chain_junctions.proofs.put_ends.Goals as goal

pub loop-i-preserved : goal.loop-i-preserved
unfolding way_at
loop-i-preserved c =
    ending_step _ _ _ _ _ _ _ _ _ _ c.loop-i.invariant c.requires c.loop-i-test.true _ _ _ c.put_end.ensures c.put_end.auto.w c.side_direction-direction.ensures refl
