-- `put`: after i turns what the first i numbers convert to stands from `at` on.
use Rattle.std.proofs.Common.{arith}
use Rattle.lent_taking.proofs.Converting.{converted_more}
use Rattle.lent_taking.proofs.put.Goals as goal

pub loop-i-preserved : goal.loop-i-preserved
loop-i-preserved g c =
    converted_more g.T.Into.converts c.args.numbers.now c.loop-i.w c.args.w.now c.args.at c.loop-i.i c.index-numbers-i.result c.into.result c.loop-i.invariant c.requires (omega arith)
    c.index-numbers-i.is c.into.ensures
