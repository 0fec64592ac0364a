-- `place_lines`: the places of the first i lines are the sums of the counts before them, and the sum is that of the counts passed.
use Rattle.std.proofs.Common.{arith}
use Rattle.lent_noting.proofs.Marks.{placing_start, placing_small, placing_next}
use Rattle.lent_noting.proofs.place_lines.Goals as goal

pub loop-i-init : goal.loop-i-init
loop-i-init c = placing_start c.args.places.now c.args.counts.now c.requires.0

pub overflow_add-sum : goal.overflow_add-sum
overflow_add-sum c = omega (arith, placing_small c.loop-i.invariant (omega arith))

pub loop-i-preserved : goal.loop-i-preserved
loop-i-preserved c = placing_next c.loop-i.invariant (omega arith) (omega arith)
