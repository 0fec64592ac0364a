-- A box that isn't wholly lent is not looked at; of any other first x and then y decides.
use mathlib.Core.Path.{sym, ◌∙◌}
use Rattle.box_window.proofs.Tests.{shown_beyond, shown_both, shown_neither}
use Rattle.box_window.proofs.shown.Goals as goal

pub returns-then-boxes-j : goal.returns-then-boxes-j
returns-then-boxes-j c = shown_beyond _ _ _ c.if-boxes-j.true

pub returns-then-touch : goal.returns-then-touch
returns-then-touch c = c.touch-then-touch.ensures ∙ shown_both c.args.w c.args.boxes.now c.args.j c.if-boxes-j.false (sym c.touch.ensures ∙ c.if-touch.true)

pub returns-else-touch : goal.returns-else-touch
returns-else-touch c = c.if-touch.false ∙ shown_neither c.args.w c.args.boxes.now c.args.j c.if-boxes-j.false (sym c.touch.ensures ∙ c.if-touch.false)
