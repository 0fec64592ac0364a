-- `angle_of` answers the angle of an end, by the cases of its direction.
use Rattle.std.proofs.Common.{arith}
use Rattle.std.proofs.lemmas.Grind.{common_steps}
use Rattle.pair_owners.specs.Angles.{angle_along}
use Rattle.pair_owners.proofs.angle_of.Goals as goal

pub returns : goal.returns
unfolding angle_along
returns c = grind (arith, common_steps)
