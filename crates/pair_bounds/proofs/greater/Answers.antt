-- `bounds::greater` meets its contract: the branches are those of the definition.
use lib.Ieee.{of_bits}
use Rattle.pair_bounds.specs.Box.{greatest}
use Rattle.float_order.proofs.Pick.{chosen, other}
use Rattle.pair_bounds.proofs.greater.Goals as goal

pub returns-then-a-b : goal.returns-then-a-b
unfolding greatest of_bits
returns-then-a-b c = chosen _ _ _ c.if-a-b.true

pub returns-else-a-b : goal.returns-else-a-b
unfolding greatest of_bits
returns-else-a-b c = other _ _ _ c.if-a-b.false
