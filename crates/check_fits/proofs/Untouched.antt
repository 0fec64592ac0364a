-- Points are untouched exactly if their numbers are the same.
use Prim.Native.Nat.{ℕ, ◌≤◌}
use mathlib.Core.Path.{◌≡◌, refl, sym, ap, ap₂, ◌∙◌}
use mathlib.Core.Bool.{Bool, true, false, ◌&&◌}
use mathlib.Core.List.{List, [], ◌∷◌, ◌++◌}
use native.Mathlib.Omega.{arith}
use lib.Dec.{eqb}
use lib.ListN.{length}
use Rattle.rules.specs.Plane.{Point, points, flat}
use Rattle.rules.specs.Check.{same_numbers, untouched}
use Rattle.point_numbers.specs.Width.{AllWide, none_wide, more_wide, Whole}
use Rattle.point_numbers.proofs.Points.{numbers_wide, points_back, points_wide}

-- rows of one length, with others behind them
same_behind : (a b l r : List ℕ) → length a ≡ length b → same_numbers (a ++ l) (b ++ r) ≡ (same_numbers a b && same_numbers l r)
unfolding same_numbers
same_behind [] [] l r e = refl
same_behind [] (y ∷ b) l r e = absurd (omega arith)
same_behind (x ∷ a) [] l r e = absurd (omega arith)
same_behind (x ∷ a) (y ∷ b) l r e = ap (λ (t : Bool). eqb x y && t) (same_behind a b l r (omega arith)) ∙ grouped (eqb x y) (same_numbers a b) (same_numbers l r)
  where
    grouped : (p q s : Bool) → (p && (q && s)) ≡ ((p && q) && s)
    grouped true q s = refl
    grouped false q s = refl

untouched_flat : (w : ℕ) (a b : List Point) → AllWide w a → AllWide w b → untouched a b ≡ same_numbers (flat w a) (flat w b)
unfolding untouched flat same_numbers
untouched_flat w [] [] none_wide none_wide = refl
untouched_flat w [] (q ∷ b) none_wide (more_wide v vs) = rw (numbers_wide w q v)
untouched_flat w (p ∷ a) [] (more_wide v vs) none_wide = rw (numbers_wide w p v)
untouched_flat w (p ∷ a) (q ∷ b) (more_wide v vs) (more_wide u us) =
    ap (λ (t : Bool). same_numbers (p.x ∷ p.y ∷ p.extras) (q.x ∷ q.y ∷ q.extras) && t) (untouched_flat w a b vs us)
    ∙ sym
    (ap₂ (λ (x y : List ℕ). same_numbers (x ++ flat w a) (y ++ flat w b)) (numbers_wide w p v) (numbers_wide w q u)
    ∙ same_behind (p.x ∷ p.y ∷ p.extras) (q.x ∷ q.y ∷ q.extras) (flat w a) (flat w b) (omega (arith, v, u)))

pub untouched_numbers : (w : ℕ) (a b : List ℕ) → 2 ≤ w → Whole w a → Whole w b → untouched (points w a) (points w b) ≡ same_numbers a b
untouched_numbers w a b two h k =
    untouched_flat w (points w a) (points w b) (points_wide w a two) (points_wide w b two) ∙ ap₂ same_numbers (points_back w a two h) (points_back w b two k)
