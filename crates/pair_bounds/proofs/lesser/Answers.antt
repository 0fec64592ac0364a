-- `bounds::lesser` meets its contract: the branches are those of the definition.
use lib.Ieee.{of_bits}
use Rattle.pair_bounds.specs.Box.{least}
use Rattle.float_order.proofs.Pick.{chosen, other}
use Rattle.pair_bounds.proofs.lesser.Goals as goal

pub returns-then-b-a : goal.returns-then-b-a
unfolding least of_bits
returns-then-b-a c = chosen _ _ _ c.if-b-a.true

pub returns-else-b-a : goal.returns-else-b-a
unfolding least of_bits
returns-else-b-a c = other _ _ _ c.if-b-a.false
