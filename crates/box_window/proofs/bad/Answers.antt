-- The two comparisons decide.
use Rattle.rules.specs.Windows.{window_bad}
use Rattle.box_window.proofs.bad.Goals as goal
use Rattle.box_window.proofs.bad.Goals.{then-w, else-w}

pub returns : goal.returns
unfolding window_bad
returns c = elim c.if-w.branch [ then-w w ↦ rw (w.result-is, w.if-w.true) | else-w w ↦ rw (w.result-is, w.if-w.false) ]
