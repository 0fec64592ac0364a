-- The four points are places, and so their numbers are no NaNs; two pairs joined are the box of the four.
use Rattle.box_levels.proofs.Points.{first_real, second_real, third_real, fourth_real, four_boxed}
use Rattle.box_levels.proofs.of_four.Goals as goal

pub spot-requires : goal.spot-requires
spot-requires c = first_real c.requires

pub spot-requires-2 : goal.spot-requires-2
spot-requires-2 c = second_real c.requires

pub spot-requires-3 : goal.spot-requires-3
spot-requires-3 c = third_real c.requires

pub spot-requires-4 : goal.spot-requires-4
spot-requires-4 c = fourth_real c.requires

pub returns : goal.returns
returns c = four_boxed c.requires c.spot.ensures c.spot-2.ensures c.spot-3.ensures c.spot-4.ensures c.around.ensures c.around-2.ensures c.around-3.ensures
