-- After i turns the first i words of the part stand at the front.
use Rattle.build_layout.proofs.Parts.{front_more}
use Rattle.build_layout.proofs.lay_marks.Goals as goal

pub loop-i-preserved : goal.loop-i-preserved
loop-i-preserved c = front_more c.loop-i.invariant c.requires c.loop-i-test.true
