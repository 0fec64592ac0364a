-- `bounds::is_round` meets its contract: an f64 fits, and the dot product of (x, y) with itself is held against the rim.
use borrow.Author.Rules.{rules}
use lib.Ieee.{of_bits}
use Rattle.rules.specs.Plane.{dot}
use Rattle.pair_bounds.proofs.Round.{round_is}
use Rattle.pair_bounds.proofs.is_round.Goals as goal

pub returns : goal.returns
unfolding dot of_bits
returns c = round_is _ _ (search rules) (search rules)
