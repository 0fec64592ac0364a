-- `==` as equality: a point and one that is no NaN are equal by `==` exactly where the keys of their x and y are the same, since both zeros have one
-- key and no number has a NaN's. So each law of points that are one is a law of points that are equal, and lists with the same values agree.
use Prim.Native.Nat.{ℕ}
use mathlib.Core.Path.{◌≡◌, refl, sym, ap, ap₂, ◌∙◌, subst}
use mathlib.Core.Bool.{Bool, true, false, not, ◌&&◌, and-eq-true_iff}
use mathlib.Core.List.{List, [], ◌∷◌, map}
use mathlib.Core.Option.{none, some}
use native.Mathlib.Omega.{arith}
use lib.Dec.{T, eqb}
use lib.Ieee.{Float, nan, inf, fin, binary64, is_nan}
use lib.Ieee.Bits.{of_bits-fits}
use lib.Ieee.Scale.{finite}
use borrow.Author.Tests.{eqb-true, eq-eqb}
use Rattle.rules.specs.Plane.{Point, float, equal}
use Rattle.rules.specs.Chaining.{lay}
use Rattle.rules.specs.Refusals.{nowhere, any_nowhere}
use Rattle.float_order.specs.Key.{key}
use Rattle.float_order.proofs.Keys.{key_eq_is}
use Rattle.chain_laws.proofs.Counts.{Each, nil, cons}
use Rattle.chain_travel.specs.Travel.{agree}
use Rattle.chain_travel.proofs.Laying.{laid, laid_drop, laid_keep, laid_first}

-- ---- a point

-- neither of its numbers is a NaN
pub record Number (p : Point) : Type 0 where
  pub x_number : T (not (is_nan (float p.x)))
  pub y_number : T (not (is_nan (float p.y)))

unfoldable pub value : Point → ℕ × ℕ
value p = (key (float p.x), key (float p.y))

unfoldable pub same : ℕ × ℕ → ℕ × ℕ → Bool
same a b = eqb a.0 b.0 && eqb a.1 b.1

pub one : (a b : ℕ × ℕ) → same a b ≡ true → a ≡ b
unfolding same
one a b e =
    let t = (and-eq-true_iff (eqb a.0 b.0) (eqb a.1 b.1)).0 e in
    ap₂ {C = ℕ × ℕ} (λ (x y : ℕ). (x, y)) (eqb-true a.0 b.0 t.0) (eqb-true a.1 b.1 t.1)

pub self : (a : ℕ × ℕ) → same a a ≡ true
unfolding same
self a = (and-eq-true_iff (eqb a.0 a.0) (eqb a.1 a.1)).1 (eq-eqb a.0 a.0 refl, eq-eqb a.1 a.1 refl)

pub equal_value : (p q : Point) → Number q → equal p q ≡ same (value p) (value q)
unfolding equal same value
equal_value p q n =
    ap₂ (λ (s t : Bool). s && t)
    (key_eq_is (float p.x) (float q.x) (of_bits-fits binary64 p.x) (of_bits-fits binary64 q.x) n.x_number)
    (key_eq_is (float p.y) (float q.y) (of_bits-fits binary64 p.y) (of_bits-fits binary64 q.y) n.y_number)

-- a place is no NaN
finite_number : (x : Float) → finite x ≡ true → T (not (is_nan x))
unfolding is_nan
finite_number nan h = let z : ◌≡◌ {A = ℕ} 0 1 = cc in absurd (omega arith)
finite_number (inf s) h = tt
finite_number (fin s m e) h = tt

pub place_number : (p : Point) → nowhere p ≡ false → Number p
unfolding nowhere
place_number p h = go (finite (float p.x)) (finite (float p.y)) refl refl h
  where
    go : (a b : Bool) → finite (float p.x) ≡ a → finite (float p.y) ≡ b → not (a && b) ≡ false → Number p
    go true true e f k = record { x_number = finite_number (float p.x) e; y_number = finite_number (float p.y) f }
    go true false e f k = let z : ◌≡◌ {A = ℕ} 0 1 = cc in absurd (omega arith)
    go false b e f k = let z : ◌≡◌ {A = ℕ} 0 1 = cc in absurd (omega arith)

-- ---- lists of points

pub places_split : (p : Point) (l : List Point) → any_nowhere (p ∷ l) ≡ false → (nowhere p ≡ false) × (any_nowhere l ≡ false)
unfolding any_nowhere
places_split p l h = go (nowhere p) refl
  where
    go : (t : Bool) → nowhere p ≡ t → (nowhere p ≡ false) × (any_nowhere l ≡ false)
    go true e = let k : true ≡ false = rw (e, any_nowhere) at h in let z : ◌≡◌ {A = ℕ} 0 1 = cc in absurd (omega arith)
    go false e = (e, rw (e, any_nowhere) at h)

pub places_numbers : (l : List Point) → any_nowhere l ≡ false → Each Number l
places_numbers [] h = nil
places_numbers (p ∷ l) h = cons (place_number p (places_split p l h).0) (places_numbers l (places_split p l h).1)

pub same_agree : (a b : List Point) → Each Number b → map value a ≡ map value b → agree a b ≡ true
unfolding agree
same_agree [] [] n e = refl
same_agree [] (q ∷ b) n e = let z : ◌≡◌ {A = ℕ} 0 1 = cc in absurd (omega arith)
same_agree (p ∷ a) [] n e = let z : ◌≡◌ {A = ℕ} 0 1 = cc in absurd (omega arith)
same_agree (p ∷ a) (q ∷ b) (cons n ns) e =
    let u : value p ≡ value q = cc in
    let v : map value a ≡ map value b = cc in
    (and-eq-true_iff (equal p q) (agree a b)).1
    (equal_value p q n ∙ subst (λ (z : ℕ × ℕ). same (value p) z ≡ true) u (self (value p)), same_agree a b ns v)

-- ---- the book's `lay`, on the values

lay_met : (q p : Point) (l : List Point) → equal q p ≡ true → lay (some q) (p ∷ l) ≡ lay (some q) l
unfolding lay
lay_met q p l e = rw (e, lay)

lay_kept : (q p : Point) (l : List Point) → equal q p ≡ false → lay (some q) (p ∷ l) ≡ p ∷ lay (some p) l
unfolding lay
lay_kept q p l e = rw (e, lay)

lay_behind : (q : Point) (l : List Point) → Each Number l → map value (lay (some q) l) ≡ laid same (some (value q)) (map value l)
unfolding lay laid
lay_behind q [] n = refl
lay_behind q (p ∷ l) (cons n ns) = go (equal q p) refl (lay_behind q l ns) (lay_behind p l ns)
  where
    go : (t : Bool) → equal q p ≡ t → map value (lay (some q) l) ≡ laid same (some (value q)) (map value l)
        → map value (lay (some p) l) ≡ laid same (some (value p)) (map value l)
        → map value (lay (some q) (p ∷ l)) ≡ laid same (some (value q)) (value p ∷ map value l)
    go true e a b =
        ap (map value) (lay_met q p l e) ∙ a
        ∙ sym (laid_drop same (some (value q)) (value p) (map value l) (sym (equal_value q p n) ∙ e))
    go false e a b =
        ap (map value) (lay_kept q p l e) ∙ ap {B = List (ℕ × ℕ)} (λ (z : List (ℕ × ℕ)). value p ∷ z) b
        ∙ sym (laid_keep same (some (value q)) (value p) (map value l) (sym (equal_value q p n) ∙ e))

pub lay_values : (l : List Point) → Each Number l → map value (lay none l) ≡ laid same none (map value l)
unfolding lay laid
lay_values [] n = refl
lay_values (p ∷ l) (cons n ns) =
    ap {B = List (ℕ × ℕ)} (λ (z : List (ℕ × ℕ)). value p ∷ z) (lay_behind p l ns) ∙ sym (laid_first same (value p) (map value l))
