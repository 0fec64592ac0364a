-- `bounds::corner` meets its contract: the branches are those of the definition.
use lib.Ieee.{of_bits}
use Rattle.pair_bounds.specs.Box.{corner}
use Rattle.float_order.proofs.Pick.{chosen, other}
use Rattle.pair_bounds.proofs.corner.Goals as goal

pub returns-then-a : goal.returns-then-a
unfolding corner of_bits
returns-then-a c = chosen _ _ _ c.if-a.true

pub returns-else-a : goal.returns-else-a
unfolding corner of_bits
returns-else-a c = other _ _ _ c.if-a.false
