-- The loop's invariant is `Rising`; the levels' boxes grow fewer.
use Rattle.box_window.proofs.Rising.{rising_start, rising_more, rising_done}
use Rattle.box_window.proofs.starts_of.Goals as goal

pub loop-n-init : goal.loop-n-init
loop-n-init c = rising_start _ c.args.starts.now c.requires.1 c.requires.0

pub loop-n-preserved : goal.loop-n-preserved
loop-n-preserved c = rising_more _ _ _ _ _ c.loop-n.invariant c.loop-n-test.true

pub returns : goal.returns
returns c = rising_done _ _ _ _ _ c.loop-n.invariant c.loop-n-test.false
