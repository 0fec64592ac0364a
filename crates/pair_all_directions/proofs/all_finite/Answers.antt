-- Of each direction is asked whether it is tame.
use Rattle.std.proofs.Common.{rules}
use borrow.Author.Tests.{tests}
use Rattle.pair_ends.specs.Ends.{direction_at}
use Rattle.pair_all_directions.specs.Around.{tame}
use Rattle.pair_all_directions.proofs.Scan.{every_from_all}
use Rattle.pair_all_directions.proofs.all_finite.Goals as goal

pub returns : goal.returns
returns c = let a = c.args in every_from_all (λ e. tame (direction_at a.w.now a.d e)) a.d c.all.ensures.ran (cc) (λ x b q k. search (rules, tests))
