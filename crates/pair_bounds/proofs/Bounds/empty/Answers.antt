-- `Bounds::empty` is the definition. A literal is its bits' value.
use mathlib.Core.Path.{refl}
use lib.Ieee.{of_bits}
use Rattle.pair_bounds.proofs.Bounds.empty.Goals as goal

pub returns : goal.returns
unfolding of_bits
returns c = refl
