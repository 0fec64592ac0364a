-- The number of a refusal with an offset, by the cases of the switch and of the refusal.
use mathlib.Core.Path.{sym, ◌∙◌}
use Rattle.offset_calls.proofs.Numbers.{turned, other, switched}
use Rattle.offset_calls.proofs.of_offset.Goals as goal
use Rattle.offset_calls.proofs.of_offset.Goals.{else-switch-le1-via-then-switch-le1+else-eq, else-switch-le1-via-else-switch-le1}

pub returns-then-eq : goal.returns-then-eq
returns-then-eq c = turned c.args.switch c.args.refusal c.if-switch-le1.true (sym c.if-eq.ensures)

pub returns : goal.returns
returns c = elim c.else-switch-le1.branch [
  | else-switch-le1-via-then-switch-le1+else-eq w ↦ other c.args.switch c.args.refusal (sym w.if-eq.ensures)
  | else-switch-le1-via-else-switch-le1 w ↦ switched c.args.switch c.args.refusal w.if-switch-le1.false
]
