-- Both ways answer by the points: without extras a number is no place's exactly where its point is no place.
use mathlib.Core.Path.{sym, ◌∙◌}
use Rattle.build_refusals.proofs.Places.{nowhere_wild}
use Rattle.build_refusals.proofs.any_nowhere.Goals as goal

pub returns-then-width-eq2 : goal.returns-then-width-eq2
returns-then-width-eq2 c =
    c.any_wild.ensures ∙ sym (nowhere_wild c.args.width c.args.numbers.now c.requires.1 c.if-width-eq2.true)
