-- After each turn it is the extent of the points before the i-th number; the last four end it.
use Rattle.box_levels.proofs.Fours.{first_four, last_four, next_four, reached_start, reached_more, reached_done}
use Rattle.box_levels.proofs.extent_of.Goals as goal

pub of_four-all-requires : goal.of_four-all-requires
of_four-all-requires c = first_four c.requires c.if-n-width.false

pub loop-i-init : goal.loop-i-init
loop-i-init c = reached_start c.requires c.if-n-width.false c.of_four-all.ensures

pub of_four-requires : goal.of_four-requires
of_four-requires c = next_four c.requires c.if-n-width.false c.loop-i.invariant c.loop-i-test.true

pub loop-i-preserved : goal.loop-i-preserved
loop-i-preserved c = reached_more c.requires c.if-n-width.false c.loop-i.invariant c.loop-i-test.true c.of_four.ensures c.around-all.ensures

pub of_four-requires-2 : goal.of_four-requires-2
of_four-requires-2 c = last_four c.requires c.if-n-width.false

pub returns : goal.returns
returns c = reached_done c.requires c.if-n-width.false c.loop-i.invariant c.loop-i-test.false c.of_four-2.ensures c.around.ensures
