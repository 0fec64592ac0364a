-- `root::positive` meets its contract: an exponent's field of 0 has no leading digit, any other has one.
use mathlib.Core.Path.{sym, ◌∙◌}
use Rattle.float_root.proofs.Values.{root_low, root_high}
use Rattle.float_root.proofs.positive.Goals as goal

pub returns-then-e-eq0 : goal.returns-then-e-eq0
returns-then-e-eq0 c =
    c.scaled.ensures ∙ sym (root_low c.args.n c.requires.0 c.requires.1 c.if-e-eq0.true)

pub returns-else-e-eq0 : goal.returns-else-e-eq0
returns-else-e-eq0 c = c.scaled-else-e-eq0.ensures ∙ sym (root_high c.args.n c.requires.1 c.if-e-eq0.false)
