-- `Bounds::gap_measure` meets its contract: the callees' answers are the parts of the definition.
use lib.Ieee.{of_bits}
use Rattle.pair_bounds.specs.Box.{gap_of}
use Rattle.pair_bounds.proofs.Bounds.gap_measure.Goals as goal

pub returns : goal.returns
unfolding gap_of of_bits
returns c = cc
