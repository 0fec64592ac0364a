-- Tests of lists: whether one of two holds, whether an element passes, whether two lists name different lines; and lists that are made number by number.
use Prim.Native.Nat.{ℕ, zero, suc, ◌+◌, ◌≤◌, ◌<◌}
use mathlib.Core.Path.{◌≡◌, refl, sym, ap, ◌∙◌, subst}
use mathlib.Core.Bool.{Bool, true, false, not, ◌||◌, true≢false}
use mathlib.Core.List.{[], List, ◌∷◌, ◌++◌, map, flat_map}
use native.Mathlib.Omega.{arith}
use native.Mathlib.Nat.{zero-add}
use native.Mathlib.Decide.{ℕ_discrete}
use lib.Dec.{eqb}
use borrow.Author.Tests.{eq-eqb, ne_eqb}
use Rattle.rules.specs.Lists.{count, from, upto, total, any_of}
use Rattle.rules.specs.Pieces.{differ}
use Rattle.chain_laws.proofs.Counts.{one_le, one_same, one_other, count_append, pos_of}
use Rattle.chain_laws.proofs.Lines.{flat_map_append}

-- ---- one of two

pub or_none : (a b : Bool) → a ≡ false → b ≡ false → a || b ≡ false
or_none true b e f = absurd (true≢false e)
or_none false b e f = f

pub or_off : (a b : Bool) → a || b ≡ false → (a ≡ false) × (b ≡ false)
or_off true b e = absurd (true≢false e)
or_off false b e = (refl, e)

-- ---- one that passes

module _ (t : ℕ → Bool) where
  pub any_yes : (a : ℕ) (l : List ℕ) → t a ≡ true → any_of t (a ∷ l) ≡ true
  unfolding any_of
  any_yes a l e = rw (e, any_of)

  pub any_no : (a : ℕ) (l : List ℕ) → t a ≡ false → any_of t (a ∷ l) ≡ any_of t l
  unfolding any_of
  any_no a l e = rw (e, any_of)

  any_on : (a : ℕ) (l : List ℕ) → any_of t l ≡ true → any_of t (a ∷ l) ≡ true
  any_on a l e = go (t a) refl
    where
      go : (b : Bool) → t a ≡ b → any_of t (a ∷ l) ≡ true
      go true f = any_yes a l f
      go false f = any_no a l f ∙ e

  -- what stands in a list and passes the test
  pub any_in : (y : ℕ) (l : List ℕ) → 0 < count y l → t y ≡ true → any_of t l ≡ true
  unfolding count
  any_in y [] h e = absurd (omega arith)
  any_in y (a ∷ l) h e =
      elim (ℕ_discrete y a) [
        | yes q ↦ any_yes a l (subst (λ (z : ℕ). t z ≡ true) q e)
        | no q ↦ any_on a l (any_in y l (omega (arith, one_other y a q)) e)
      ]

  pub any_none : (l : List ℕ) → ((y : ℕ) → 0 < count y l → t y ≡ false) → any_of t l ≡ false
  unfolding count any_of
  any_none [] h = refl
  any_none (a ∷ l) h = any_no a l (h a (omega (arith, one_same a a refl))) ∙ any_none l (λ y k. h y (omega (arith, one_le (eqb y a))))

  pub any_off : (y : ℕ) (l : List ℕ) → 0 < count y l → any_of t l ≡ false → t y ≡ false
  any_off y l h e = go (t y) refl
    where
      go : (b : Bool) → t y ≡ b → t y ≡ false
      go true f = absurd (true≢false (sym (any_in y l h f) ∙ e))
      go false f = f

-- ---- two lists that name different lines

module _ (a b : List ℕ) where
  abbrev odd : ℕ → Bool
  odd y = not (eqb (count y a) (count y b))

  differ_here : (y : ℕ) → (count y a ≡ count y b → ⊥) → differ a b ≡ true
  unfolding differ
  differ_here y n = any_in odd y (a ++ b) (pos_of _ (λ z. n (omega (arith, count_append y a b)))) (ap not (ne_eqb _ _ n))

  pub differ_none : ((y : ℕ) → count y a ≡ count y b) → differ a b ≡ false
  unfolding differ
  differ_none h = any_none odd (a ++ b) (λ y k. ap not (eq-eqb _ _ (h y)))

  pub differ_off : differ a b ≡ false → (y : ℕ) → count y a ≡ count y b
  differ_off e y = elim (ℕ_discrete (count y a) (count y b)) [ yes q ↦ q | no n ↦ absurd (true≢false (sym (differ_here y n) ∙ e)) ]

-- ---- number by number

from_suc : (k n : ℕ) → from k (suc n) ≡ from k n ++ ((k + n) ∷ [])
unfolding from
from_suc k zero = let e : k ≡ k + 0 = omega arith in ap {B = List ℕ} (λ (i : ℕ). i ∷ []) e
from_suc k (suc n) =
    let e : suc k + n ≡ k + suc n = omega arith in
    ap {B = List ℕ} (λ (r : List ℕ). k ∷ r) (from_suc (suc k) n ∙ ap (λ (i : ℕ). from (suc k) n ++ (i ∷ [])) e)

pub upto_suc : (n : ℕ) → upto (suc n) ≡ upto n ++ (n ∷ [])
unfolding upto
upto_suc n = from_suc 0 n ∙ ap (λ (i : ℕ). from 0 n ++ (i ∷ [])) (zero-add n)

-- how often a line stands in what the numbers up to n name
module _ (f : ℕ → List ℕ) where
  here : (q y : ℕ) → count y (flat_map f (q ∷ [])) ≡ count y (f q)
  unfolding flat_map count
  here q y = count_append y (f q) [] ∙ omega arith

  pub flat_suc : (q y : ℕ) → count y (flat_map f (upto (suc q))) ≡ count y (flat_map f (upto q)) + count y (f q)
  flat_suc q y =
      ap (λ (r : List ℕ). count y (flat_map f r)) (upto_suc q)
      ∙ ap (count y) (flat_map_append f (upto q) (q ∷ []))
      ∙ count_append y (flat_map f (upto q)) (flat_map f (q ∷ []))
      ∙ ap (λ (i : ℕ). count y (flat_map f (upto q)) + i) (here q y)

  pub flat_none : (y : ℕ) → count y (flat_map f (upto 0)) ≡ 0
  unfolding upto from flat_map count
  flat_none y = refl

  pub flat_part : (y q k : ℕ) → q ≤ k → count y (flat_map f (upto q)) ≤ count y (flat_map f (upto k))
  flat_part y q zero h = let e : 0 ≡ q = omega arith in subst (λ (i : ℕ). count y (flat_map f (upto i)) ≤ count y (flat_map f (upto 0))) e (omega arith)
  flat_part y q (suc k) h =
      elim (ℕ_discrete q (suc k)) [
        | yes e ↦ subst (λ (i : ℕ). count y (flat_map f (upto i)) ≤ count y (flat_map f (upto (suc k)))) (sym e) (omega arith)
        | no e ↦ omega (arith, flat_suc k y, flat_part y q k (omega arith))
      ]

  -- in one of them, and so in all
  pub flat_within : (y q k : ℕ) → q < k → count y (f q) ≤ count y (flat_map f (upto k))
  flat_within y q k h = omega (arith, flat_suc q y, flat_part y (suc q) k (omega arith))

-- the sum of a number for each
module _ (f : ℕ → ℕ) where
  pub sum_suc : (q : ℕ) → total (map f (upto (suc q))) ≡ total (map f (upto q)) + f q
  unfolding total
  sum_suc q = ap (λ (r : List ℕ). total (map f r)) (upto_suc q) ∙ go (upto q)
    where
      go : (l : List ℕ) → total (map f (l ++ (q ∷ []))) ≡ total (map f l) + f q
      go [] = omega arith
      go (a ∷ l) = omega (arith, go l)

  pub sum_none : total (map f (upto 0)) ≡ 0
  unfolding upto from total
  sum_none = refl

  pub sum_part : (q k : ℕ) → q ≤ k → total (map f (upto q)) ≤ total (map f (upto k))
  sum_part q zero h = let e : 0 ≡ q = omega arith in subst (λ (i : ℕ). total (map f (upto i)) ≤ total (map f (upto 0))) e (omega arith)
  sum_part q (suc k) h =
      elim (ℕ_discrete q (suc k)) [
        | yes e ↦ subst (λ (i : ℕ). total (map f (upto i)) ≤ total (map f (upto (suc k)))) (sym e) (omega arith)
        | no e ↦ omega (arith, sum_suc k, sum_part q k (omega arith))
      ]
