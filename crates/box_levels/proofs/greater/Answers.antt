-- The comparison decides.
use Rattle.box_levels.proofs.Extents.{higher_second, higher_first}
use Rattle.box_levels.proofs.greater.Goals as goal

pub returns-then-a-b : goal.returns-then-a-b
returns-then-a-b c = higher_second _ _ c.if-a-b.true

pub returns-else-a-b : goal.returns-else-a-b
returns-else-a-b c = higher_first _ _ c.if-a-b.false
