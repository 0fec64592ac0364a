-- `bounds::gap` meets its contract: the branches are those of the definition.
use mathlib.Core.Path.{◌∙◌}
use lib.Ieee.{of_bits}
use Rattle.pair_bounds.specs.Box.{gap}
use Rattle.float_order.proofs.Pick.{chosen, other}
use Rattle.pair_bounds.proofs.gap.Goals as goal

pub returns-then-u : goal.returns-then-u
unfolding gap of_bits
returns-then-u c = chosen _ _ _ c.if-u.true

pub returns-then-v : goal.returns-then-v
unfolding gap of_bits
returns-then-v c = chosen _ _ _ c.if-v.true ∙ other _ _ _ c.if-u.false

pub returns-else-v : goal.returns-else-v
unfolding gap of_bits
returns-else-v c = other _ _ _ c.if-v.false ∙ other _ _ _ c.if-u.false
