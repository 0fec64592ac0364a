-- An end is read by its presence mark.
use mathlib.Core.Path.{◌≡◌, refl, ◌∙◌}
use mathlib.Core.Bool.{Bool, true, false}
use Rattle.std.specs.Bool.{then_some}
use Rattle.rules.specs.Answers.{Direction, Absent, Toward}
use lib.Ieee.{Float}
use Rattle.rules.specs.Layout.{given}
use Rattle.pair_why.proofs.direction_of.Goals as goal

chosen : (b : Bool) (x y : Float) → then_some b (x, y) ≡ (elim b as (λ _. Direction) [ true ↦ Toward x y | false ↦ Absent ])
chosen true x y = refl
chosen false x y = refl

pub returns : goal.returns
unfolding given
returns c = c.then_some.ensures ∙ chosen _ _ _
