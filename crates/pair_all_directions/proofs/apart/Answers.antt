-- Of each direction is asked whether it is beyond the box around all.
use Rattle.std.proofs.Common.{rules}
use borrow.Author.Tests.{tests}
use Rattle.pair_ends.specs.Ends.{direction_at}
use Rattle.pair_all_directions.specs.Around.{around_of, beyond_of}
use Rattle.pair_all_directions.proofs.Scan.{every_from_all}
use Rattle.pair_all_directions.proofs.apart.Goals as goal

pub returns : goal.returns
returns c =
    let a = c.args in
    every_from_all (λ e. beyond_of (around_of (direction_at a.w.now a.d) a.d) a.limit (direction_at a.w.now a.d e)) a.d c.all.ensures.ran (cc) (λ x b q k. search (rules, tests))
