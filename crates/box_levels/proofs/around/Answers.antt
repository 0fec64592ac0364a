-- Value by value.
use Rattle.box_levels.specs.Extents.{joined}
use Rattle.box_levels.proofs.around.Goals as goal

pub returns : goal.returns
unfolding joined
returns c = cc
