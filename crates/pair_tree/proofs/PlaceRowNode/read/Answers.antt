use mathlib.Core.Path.{refl}
use Rattle.pair_bounds.specs.Reading.{place_at}
use Rattle.pair_tree.proofs.PlaceRowNode.read.Goals as goal

pub returns : goal.returns
unfolding place_at
returns c = refl
