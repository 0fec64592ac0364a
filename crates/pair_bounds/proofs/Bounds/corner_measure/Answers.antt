-- `Bounds::corner_measure` meets its contract: the measure with the two corners.
use Rattle.pair_bounds.specs.Box.{corner_of}
use Rattle.pair_bounds.proofs.Bounds.corner_measure.Goals as goal

pub returns : goal.returns
unfolding corner_of
returns c = cc
