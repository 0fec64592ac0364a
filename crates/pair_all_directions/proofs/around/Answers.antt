use Rattle.pair_all_directions.proofs.Box.{around_none, around_next}
use Rattle.std.proofs.Common.{◌∙◌}
use Rattle.pair_all_directions.proofs.around.Goals as goal

pub loop-e-init : goal.loop-e-init
loop-e-init c = c.empty-b.ensures ∙ around_none _

pub loop-e-preserved : goal.loop-e-preserved
loop-e-preserved c = around_next _ _ c.loop-e.invariant c.direction_at.ensures c.joined-b.ensures
