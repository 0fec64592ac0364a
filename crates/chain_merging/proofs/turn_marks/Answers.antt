-- After i turns the first i marks stand turned from `at` on; those that are to be read lie beyond.
use native.Mathlib.Omega.{arith}
use lib.ListN.{length-set}
use Rattle.chain_merging.proofs.Turning.{mark_low, turn_more}
use Rattle.chain_merging.proofs.turn_marks.Goals as goal

pub overflow_add-w-in-loop-i : goal.overflow_add-w-in-loop-i
overflow_add-w-in-loop-i c = omega (arith, mark_low c.loop-i.w c.args.w.now c.args.from c.args.at c.args.count c.args.side c.loop-i.i c.requires c.loop-i.invariant.2 (omega arith), c.requires.one)

pub loop-i-preserved : goal.loop-i-preserved
loop-i-preserved c =
    (omega arith, simp length-set c.loop-i.invariant.1, turn_more c.loop-i.w c.args.w.now c.args.from c.args.at c.args.count c.args.side c.loop-i.i c.requires c.loop-i.invariant.2 (omega arith))
