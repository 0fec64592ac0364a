-- A chain's box is its coordinates' extent: each of its box_numbers is one of theirs, none of theirs lies beyond it, and of equal ones it is the earliest.
use Prim.Native.Nat.{ℕ, zero, suc}
use mathlib.Core.Path.{◌≡◌, refl, sym, subst, ◌∙◌}
use mathlib.Core.List.{List, [], ◌∷◌, map}
use native.Mathlib.Omega.{arith}
use Rattle.rules.specs.declared.Box.{Box}
use Rattle.rules.specs.Plane.{Point, float}
use Rattle.rules.specs.Boxes.{lesser, greater, union, spot, grown, box_of}
use Rattle.float_order.proofs.Order.{finite_num}
use Rattle.chain_laws.proofs.Counts.{cons}
use Rattle.box_laws.specs.Sound.{Places}
use Rattle.box_laws.proofs.Picks.{Numbers, Earliest, best, best_is, below, above, below_order, above_order, not_self}
use Rattle.box_laws.proofs.Unions.{box_first}

-- ---- a box, number by number
abbrev xs : List Point → List ℕ
xs l = map (λ p. p.x) l

abbrev ys : List Point → List ℕ
ys l = map (λ p. p.y) l

grown_best : (b : Box) (l : List Point) → grown b l ≡ record {
  least_x = best below b.least_x (xs l);
  least_y = best below b.least_y (ys l);
  greatest_x = best above b.greatest_x (xs l);
  greatest_y = best above b.greatest_y (ys l);
}
unfolding grown best union lesser greater
grown_best b [] = refl
grown_best b (p ∷ l) = grown_best (union b (spot p)) l

xs_numbers : (l : List Point) → Places l → Numbers (xs l)
xs_numbers [] t j h = absurd (omega arith)
xs_numbers (p ∷ l) (cons k t) zero h = finite_num (float p.x) k.across
xs_numbers (p ∷ l) (cons k t) (suc j) h = xs_numbers l t j (omega arith)

ys_numbers : (l : List Point) → Places l → Numbers (ys l)
ys_numbers [] t j h = absurd (omega arith)
ys_numbers (p ∷ l) (cons k t) zero h = finite_num (float p.y) k.up
ys_numbers (p ∷ l) (cons k t) (suc j) h = ys_numbers l t j (omega arith)

pub record Extent (l : List Point) (b : Box) : Type 0 where
  pub at_least_x : Earliest below (xs l) b.least_x
  pub at_least_y : Earliest below (ys l) b.least_y
  pub at_greatest_x : Earliest above (xs l) b.greatest_x
  pub at_greatest_y : Earliest above (ys l) b.greatest_y

-- THE BOX OF PLACES, OF WHICH THERE IS ONE, IS THEIR EXTENT
pub extent : (p : Point) (l : List Point) → Places (p ∷ l) → Extent (p ∷ l) (box_of (p ∷ l))
extent p l (cons h t) =
    let nx = finite_num (float p.x) h.across in
    let ny = finite_num (float p.y) h.up in
    subst (Extent (p ∷ l)) (sym (box_first p l h ∙ grown_best (spot p) l))
    (record {
      at_least_x = best_is below below_order p.x (xs l) nx (xs_numbers l t) (not_self p.x nx);
      at_least_y = best_is below below_order p.y (ys l) ny (ys_numbers l t) (not_self p.y ny);
      at_greatest_x = best_is above above_order p.x (xs l) nx (xs_numbers l t) (not_self p.x nx);
      at_greatest_y = best_is above above_order p.y (ys l) ny (ys_numbers l t) (not_self p.y ny);
    })
