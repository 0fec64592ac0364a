-- `size` answers the greater of x and -x: the branches are those of the definition.
use lib.Ieee.{of_bits}
use Rattle.float_order.proofs.Pick.{chosen, other}
use Rattle.pair_owners.specs.Angles.{size_of}
use Rattle.pair_owners.proofs.size.Goals as goal

pub returns-then-x : goal.returns-then-x
unfolding size_of of_bits
returns-then-x c = chosen _ _ _ c.if-x.true

pub returns-else-x : goal.returns-else-x
unfolding size_of of_bits
returns-else-x c = other _ _ _ c.if-x.false
