-- `alike` answers whether two ends have one direction: all the tests of the definition.
use Rattle.std.proofs.Common.{arith}
use Rattle.std.proofs.lemmas.Grind.{common_steps}
use Rattle.pair_owners.specs.Tables.{alike_at}
use Rattle.pair_owners.proofs.alike.Goals as goal

pub returns-then-w-d-2 : goal.returns-then-w-d-2
unfolding alike_at
returns-then-w-d-2 c = grind (arith, common_steps)

pub returns-else-w-d-2 : goal.returns-else-w-d-2
unfolding alike_at
returns-else-w-d-2 c = grind (arith, common_steps)
