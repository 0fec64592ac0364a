-- Tests of every element of a row, and of some: one element after another, and what they tell of each.
use Prim.Native.Nat.{ℕ, zero, suc, ◌+◌, ◌≤◌, ◌<◌}
use mathlib.Core.Path.{◌≡◌, refl, sym, ap, ◌∙◌}
use mathlib.Core.Bool.{Bool, true, false}
use mathlib.Core.List.{List, [], ◌∷◌, map}
use native.Mathlib.Omega.{arith}
use native.Mathlib.Numerals.{add-one}
use lib.ListN.{length, drop, get_or, drop_of_length-le}
use lib.Seq.{drop-cons}
use Rattle.rules.specs.Lists.{any_of, all_of, from, upto}

module _ {A : Type 0} (t : A → Bool) where
  all_yes : (a : A) (l : List A) → t a ≡ true → all_of t (a ∷ l) ≡ all_of t l
  unfolding all_of
  all_yes a l e = rw (e, all_of)

  all_no : (a : A) (l : List A) → t a ≡ false → all_of t (a ∷ l) ≡ false
  unfolding all_of
  all_no a l e = rw (e, all_of)

  any_yes : (a : A) (l : List A) → t a ≡ true → any_of t (a ∷ l) ≡ true
  unfolding any_of
  any_yes a l e = rw (e, any_of)

  any_no : (a : A) (l : List A) → t a ≡ false → any_of t (a ∷ l) ≡ any_of t l
  unfolding any_of
  any_no a l e = rw (e, any_of)

  -- ---- one element after another

  module _ (l : List A) (i : ℕ) (d : A) (h : i < length l) where
    first : (f : List A → Bool) → f (drop i l) ≡ f (get_or l i d ∷ drop (i + 1) l)
    first f = ap f (drop-cons l i d h) ∙ ap (λ (j : ℕ). f (get_or l i d ∷ drop j l)) (sym (add-one i))

    pub all_next : t (get_or l i d) ≡ true → all_of t (drop i l) ≡ all_of t (drop (i + 1) l)
    all_next e = first (all_of t) ∙ all_yes (get_or l i d) (drop (i + 1) l) e

    pub all_stop : t (get_or l i d) ≡ false → all_of t (drop i l) ≡ false
    all_stop e = first (all_of t) ∙ all_no (get_or l i d) (drop (i + 1) l) e

  pub all_end : (l : List A) (i : ℕ) → length l ≤ i → all_of t (drop i l) ≡ true
  unfolding all_of
  all_end l i h = ap (all_of t) (drop_of_length-le l h)

  -- ---- what they tell

  pub all_each : (l : List A) (i : ℕ) (d : A) → all_of t l ≡ true → i < length l → t (get_or l i d) ≡ true
  all_each [] i d e h = absurd (omega arith)
  all_each (a ∷ l) i d e h = go (t a) refl i h (all_each l)
    where
      go : (b : Bool) → t a ≡ b → (i : ℕ) → i < suc (length l) → ((i : ℕ) (d : A) → all_of t l ≡ true → i < length l → t (get_or l i d) ≡ true) → t (get_or (a ∷ l) i d) ≡ true
      go true q zero h f = q
      go true q (suc i) h f = f i d (sym (all_yes a l q) ∙ e) (omega arith)
      go false q i h f = let z : all_of t (a ∷ l) ≡ false = all_no a l q in let y : ◌≡◌ {A = ℕ} 0 1 = cc in absurd (omega arith)

  pub each_all : (l : List A) (d : A) → ((i : ℕ) → i < length l → t (get_or l i d) ≡ true) → all_of t l ≡ true
  unfolding all_of
  each_all [] d f = refl
  each_all (a ∷ l) d f = all_yes a l (f 0 (omega arith)) ∙ each_all l d (λ i h. f (suc i) (omega arith))

  pub all_fails : (l : List A) (i : ℕ) (d : A) → i < length l → t (get_or l i d) ≡ false → all_of t l ≡ false
  all_fails l i d h e = go (all_of t l) refl
    where
      go : (b : Bool) → all_of t l ≡ b → all_of t l ≡ false
      go true q = let z = all_each l i d q h in let y : ◌≡◌ {A = ℕ} 0 1 = cc in absurd (omega arith)
      go false q = q

  pub none_each : (l : List A) (i : ℕ) (d : A) → any_of t l ≡ false → i < length l → t (get_or l i d) ≡ false
  none_each [] i d e h = absurd (omega arith)
  none_each (a ∷ l) i d e h = go (t a) refl i h (none_each l)
    where
      go : (b : Bool) → t a ≡ b → (i : ℕ) → i < suc (length l) → ((i : ℕ) (d : A) → any_of t l ≡ false → i < length l → t (get_or l i d) ≡ false) → t (get_or (a ∷ l) i d) ≡ false
      go false q zero h f = q
      go false q (suc i) h f = f i d (sym (any_no a l q) ∙ e) (omega arith)
      go true q i h f = let z : any_of t (a ∷ l) ≡ true = any_yes a l q in let y : ◌≡◌ {A = ℕ} 0 1 = cc in absurd (omega arith)

  pub each_none : (l : List A) (d : A) → ((i : ℕ) → i < length l → t (get_or l i d) ≡ false) → any_of t l ≡ false
  unfolding any_of
  each_none [] d f = refl
  each_none (a ∷ l) d f = any_no a l (f 0 (omega arith)) ∙ each_none l d (λ i h. f (suc i) (omega arith))

-- ---- rows of other things

pub all_map : {A B : Type 0} (t : B → Bool) (f : A → B) (l : List A) → all_of t (map f l) ≡ all_of (λ (a : A). t (f a)) l
unfolding all_of
all_map t f [] = refl
all_map {A} t f (a ∷ l) = go (t (f a)) refl (all_map t f l)
  where
    go : (b : Bool) → t (f a) ≡ b → all_of t (map f l) ≡ all_of (λ (x : A). t (f x)) l → all_of t (f a ∷ map f l) ≡ all_of (λ (x : A). t (f x)) (a ∷ l)
    go true q h = all_yes t (f a) (map f l) q ∙ h ∙ sym (all_yes (λ (x : A). t (f x)) a l q)
    go false q h = all_no t (f a) (map f l) q ∙ sym (all_no (λ (x : A). t (f x)) a l q)

pub all_same : {A : Type 0} (t u : A → Bool) (l : List A) (d : A) → ((i : ℕ) → i < length l → t (get_or l i d) ≡ u (get_or l i d)) → all_of t l ≡ all_of u l
unfolding all_of
all_same t u [] d f = refl
all_same t u (a ∷ l) d f = go (t a) refl (all_same t u l d (λ i h. f (suc i) (omega arith)))
  where
    go : (b : Bool) → t a ≡ b → all_of t l ≡ all_of u l → all_of t (a ∷ l) ≡ all_of u (a ∷ l)
    go true q h = all_yes t a l q ∙ h ∙ sym (all_yes u a l (sym (f 0 (omega arith)) ∙ q))
    go false q h = all_no t a l q ∙ sym (all_no u a l (sym (f 0 (omega arith)) ∙ q))

-- ---- the numbers up to n

from_at : (k n i : ℕ) → i < n → get_or (from k n) i 0 ≡ k + i
unfolding from
from_at k zero i h = absurd (omega arith)
from_at k (suc n) zero h = omega arith
from_at k (suc n) (suc i) h = from_at (suc k) n i (omega arith) ∙ omega arith

pub upto_at : (n i : ℕ) → i < n → get_or (upto n) i 0 ≡ i
unfolding upto
upto_at n i h = from_at 0 n i h ∙ omega arith
