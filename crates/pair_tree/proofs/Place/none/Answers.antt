use mathlib.Core.Path.{refl}
use Rattle.pair_tree.specs.Places.{none}
use Rattle.pair_tree.proofs.Place.none.Goals as goal

pub returns : goal.returns
unfolding none
returns c = refl
