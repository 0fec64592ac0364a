-- `Bounds::lower_measure` meets its contract: the greater of the two bounds where all are in the disk and the box has a width, and else the corner's.
use mathlib.Core.Path.{ap₂, ◌∙◌}
use Rattle.pair_bounds.specs.Box.{greatest}
use Rattle.pair_bounds.proofs.Round.{lower_wide, lower_thin, lower_any}
use Rattle.pair_bounds.proofs.Bounds.lower_measure.Goals as goal
use Rattle.pair_bounds.proofs.Bounds.lower_measure.Goals.{else-round-via-then-round+else-self, else-round-via-else-round}

pub returns-then-self : goal.returns-then-self
returns-then-self c =
    c.greater.ensures
    ∙ ap₂ greatest c.corner_measure-m.ensures c.gap_measure.ensures
    ∙ lower_wide _ _ _ _ c.if-round.true c.if-self.true

pub returns : goal.returns
returns c =
    c.corner_measure-m.ensures
    ∙ elim c.else-round.branch [
      | else-round-via-then-round+else-self w ↦ lower_thin _ _ _ _ w.if-self.false
      | else-round-via-else-round w ↦ lower_any _ _ _ _ w.if-round.false
    ]
