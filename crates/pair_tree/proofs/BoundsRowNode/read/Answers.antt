use mathlib.Core.Path.{refl}
use Rattle.pair_bounds.specs.Reading.{bounds_at}
use Rattle.pair_tree.proofs.Stores.{numbers}
use Rattle.pair_tree.proofs.BoundsRowNode.read.Goals as goal

pub float_from_bits-result : goal.float_from_bits-result
float_from_bits-result c = (numbers _ _ c.requires.sound).from_low_x

pub float_from_bits-result-2 : goal.float_from_bits-result-2
float_from_bits-result-2 c = (numbers _ _ c.requires.sound).from_low_y

pub float_from_bits-result-3 : goal.float_from_bits-result-3
float_from_bits-result-3 c = (numbers _ _ c.requires.sound).to_high_x

pub float_from_bits-result-4 : goal.float_from_bits-result-4
float_from_bits-result-4 c = (numbers _ _ c.requires.sound).to_high_y

pub returns : goal.returns
unfolding bounds_at
returns c = refl
