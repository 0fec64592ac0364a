-- The loop's invariant is `Stacking`: the levels that are written, and the level reached.
use Rattle.box_levels.proofs.Stacked.{stacking_start, stacking_room, stacking_sound, stacking_more, stacking_done}
use Rattle.box_levels.proofs.raise_all.Goals as goal

pub loop-n-init : goal.loop-n-init
loop-n-init c = stacking_start _ _ c.requires

pub raise-requires : goal.raise-requires
raise-requires c = (stacking_room _ _ c.loop-n.invariant c.loop-n-test.true c.requires.room, stacking_sound _ _ c.loop-n.invariant)

pub loop-n-preserved : goal.loop-n-preserved
loop-n-preserved c = stacking_more _ _ c.loop-n.invariant c.loop-n-test.true c.requires.room c.raise.ensures

pub returns : goal.returns
returns c = stacking_done _ _ c.loop-n.invariant c.loop-n-test.false
