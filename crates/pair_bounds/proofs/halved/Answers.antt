-- `bounds::halved` meets its contract: it is the definition. A literal is its bits' value.
use mathlib.Core.Path.{refl}
use lib.Ieee.{of_bits}
use Rattle.pair_bounds.specs.Box.{half_square}
use Rattle.pair_bounds.proofs.halved.Goals as goal

pub returns : goal.returns
unfolding half_square of_bits
returns c = refl
