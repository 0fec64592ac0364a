-- The first and the last of points that are laid. The first is the first of them all. The last of them all was written, or dropped because it equals the
-- last one written: so what does not tell equal points apart is the same for both (`laid_last`).
use Prim.Native.Nat.{ℕ, suc, ◌-◌, ◌<◌}
use mathlib.Core.Path.{◌≡◌, refl, sym, ap, ◌∙◌}
use mathlib.Core.Bool.{Bool, true, false}
use mathlib.Core.List.{List, [], ◌∷◌, flat_map, reverse, reverse_aux, reverse-append, append-nil}
use mathlib.Core.Option.{none, some}
use native.Mathlib.Omega.{arith}
use lib.ListN.{length, get_or, length-append, length-reverse, get_or-append}
use Rattle.rules.specs.Plane.{Point, point, equal}
use Rattle.rules.specs.Chaining.{lay}
use Rattle.chain_laws.proofs.Counts.{Each, cons}

-- ---- the first and the last of some points

abbrev pub first_of : List Point → Point
first_of l = get_or l 0 (point 0 0)

abbrev pub last_of : List Point → Point
last_of l = first_of (reverse l)

-- the last of some behind q
last_from : Point → List Point → Point
last_from q [] = q
last_from q (p ∷ l) = last_from p l

last_aux : (q : Point) (l r : List Point) → first_of (reverse_aux l (q ∷ r)) ≡ last_from q l
unfolding last_from
last_aux q [] r = refl
last_aux q (p ∷ l) r = last_aux p l (q ∷ r)

last_is : (q : Point) (l : List Point) → last_of (q ∷ l) ≡ last_from q l
last_is q l = last_aux q l []

-- ---- laid

pub laid_first : (l : List Point) → first_of (lay none l) ≡ first_of l
unfolding lay
laid_first [] = refl
laid_first (p ∷ l) = refl

module _ {K : Type 0} (f : Point → K) (alike : (p q : Point) → equal p q ≡ true → f p ≡ f q) where
  -- q was written last, and r stood last
  behind : (q r : Point) (l : List Point) → f q ≡ f r → f (last_from q (lay (some q) l)) ≡ f (last_from r l)
  unfolding lay last_from
  behind q r [] h = h
  behind q r (p ∷ l) h = go (equal q p) refl (λ e. behind q p l (alike q p e)) (behind p p l refl)
    where
      go : (t : Bool) → equal q p ≡ t → (equal q p ≡ true → f (last_from q (lay (some q) l)) ≡ f (last_from p l))
          → f (last_from p (lay (some p) l)) ≡ f (last_from p l)
          → f (last_from q (elim t [ true ↦ lay (some q) l | false ↦ p ∷ lay (some p) l ])) ≡ f (last_from p l)
      go true e dropped written = dropped e
      go false e dropped written = written

  pub laid_last : (l : List Point) → f (last_of (lay none l)) ≡ f (last_of l)
  unfolding lay
  laid_last [] = refl
  laid_last (p ∷ l) = ap f (last_is p (lay (some p) l)) ∙ behind p p l refl ∙ sym (ap f (last_is p l))

-- ---- runs of points one after another, none of them empty

module _ (run : ℕ → List Point) where
  pub runs_first : (e : ℕ) (w : List ℕ) → 0 < length (run e) → first_of (flat_map run (e ∷ w)) ≡ first_of (run e)
  unfolding flat_map
  runs_first e w h = get_or-append (run e) (flat_map run w) (point 0 0) 0 h

  pub runs_last : (e : ℕ) (w : List ℕ) → Each (λ x. 0 < length (run x)) (e ∷ w)
      → last_of (flat_map run (e ∷ w)) ≡ last_of (run (get_or (e ∷ w) (length (e ∷ w) - 1) 0))
  unfolding flat_map
  runs_last e [] (cons h a) = ap last_of (append-nil (run e))
  runs_last e (f ∷ w) (cons h (cons i a)) =
      let rest = flat_map run (f ∷ w) in
      let some_left : 0 < length (reverse rest) = omega (arith, length-reverse rest, length-append (run f) (flat_map run w)) in
      let at : length (e ∷ f ∷ w) - 1 ≡ suc (length (f ∷ w) - 1) = omega arith in
      ap first_of (reverse-append (run e) rest)
      ∙ get_or-append (reverse rest) (reverse (run e)) (point 0 0) 0 some_left
      ∙ runs_last f w (cons i a)
      ∙ ap (λ (k : ℕ). last_of (run (get_or (e ∷ f ∷ w) k 0))) (sym at)
