-- The comparison decides.
use Rattle.box_levels.proofs.Extents.{lower_second, lower_first}
use Rattle.box_levels.proofs.lesser.Goals as goal

pub returns-then-b-a : goal.returns-then-b-a
returns-then-b-a c = lower_second _ _ c.if-b-a.true

pub returns-else-b-a : goal.returns-else-b-a
returns-else-b-a c = lower_first _ _ c.if-b-a.false
