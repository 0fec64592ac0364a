-- Tests one after another: what a function answers that leaves at the first that decides is the tests joined.
use mathlib.Core.Path.{◌≡◌, sym, ◌∙◌}
use mathlib.Core.Bool.{Bool, true, false, ◌&&◌, ◌||◌}

pub and_no : (p r s : Bool) → p ≡ r → p ≡ false → false ≡ (r && s)
and_no p r s e n = rw (sym e ∙ n)

pub and_yes : (p q r s : Bool) → p ≡ r → p ≡ true → q ≡ s → q ≡ (r && s)
and_yes p q r s e y f = rw (sym e ∙ y) f

pub or_yes : (p r s : Bool) → p ≡ r → p ≡ true → true ≡ (r || s)
or_yes p r s e y = rw (sym e ∙ y)

pub or_no : (p q r s : Bool) → p ≡ r → p ≡ false → q ≡ s → q ≡ (r || s)
or_no p q r s e n f = rw (sym e ∙ n) f
