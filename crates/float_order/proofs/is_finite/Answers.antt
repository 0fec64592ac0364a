-- `order::is_finite` meets its contract: the library's word for it and the book's agree.
use mathlib.Core.Path.{◌≡◌, refl, ◌∙◌}
use lib.Ieee.{Float, nan, inf, fin}
use lib.Ieee.Scale.{finite}
use Rattle.std.specs.Float.{float_is_finite}
use Rattle.float_order.proofs.is_finite.Goals as goal

agree : (x : Float) → float_is_finite x ≡ finite x
unfolding float_is_finite
agree nan = refl
agree (inf s) = refl
agree (fin s m e) = refl

pub returns : goal.returns
returns c = c.is_finite.ensures.value ∙ agree c.args.x
