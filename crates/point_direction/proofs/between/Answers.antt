-- `direction::between` meets its contract: each part is the difference of two callees' values.
use Rattle.rules.specs.Plane.{straight}
use borrow.Author.Rules.{rules}
use Rattle.point_direction.proofs.between.Goals as goal

pub returns : goal.returns
unfolding straight
returns c = cc
