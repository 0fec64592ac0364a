-- Points of which none is nowhere are places.
use mathlib.Core.Path.{◌≡◌, refl, sym, ◌∙◌}
use mathlib.Core.Bool.{Bool, true, false, not, ◌&&◌, true≢false}
use mathlib.Core.List.{List, [], ◌∷◌}
use lib.Dec.{T}
use lib.Ieee.Scale.{finite}
use Rattle.rules.specs.Plane.{Point, float}
use Rattle.rules.specs.Refusals.{nowhere, any_nowhere}
use Rattle.chain_laws.proofs.Counts.{nil, cons}
use Rattle.box_laws.specs.Sound.{BoxPlace, Places}

both : (a b : Bool) → not (a && b) ≡ false → T a × T b
both true true e = (tt, tt)
both true false e = absurd (true≢false e)
both false b e = absurd (true≢false e)

somewhere : (p : Point) → nowhere p ≡ false → BoxPlace p
unfolding nowhere
somewhere p e = let r = both (finite (float p.x)) (finite (float p.y)) e in record { across = r.0; up = r.1 }

pub places_of : (l : List Point) → any_nowhere l ≡ false → Places l
unfolding any_nowhere
places_of [] e = nil
places_of (p ∷ l) e = go (nowhere p) refl (places_of l)
  where
    next : nowhere p ≡ false → any_nowhere (p ∷ l) ≡ any_nowhere l
    next h = rw (h, any_nowhere)

    here : nowhere p ≡ true → any_nowhere (p ∷ l) ≡ true
    here h = rw (h, any_nowhere)

    go : (b : Bool) → nowhere p ≡ b → (any_nowhere l ≡ false → Places l) → Places (p ∷ l)
    go true h r = absurd (true≢false (sym (here h) ∙ e))
    go false h r = cons (somewhere p h) (r (sym (next h) ∙ e))
