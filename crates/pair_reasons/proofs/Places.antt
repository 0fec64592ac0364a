-- The first element of a list that passes a test, by its place; and the order of a list, by places.
use Prim.Native.Nat.{ℕ, zero, suc, ◌≤◌, ◌<◌}
use mathlib.Core.Path.{◌≡◌, refl, sym, ap, ◌∙◌}
use mathlib.Core.Bool.{Bool, true, false}
use mathlib.Core.Logic.{◌⊎◌, inl, inr}
use mathlib.Core.List.{List, [], ◌∷◌}
use native.Mathlib.Omega.{arith}
use lib.ListN.{length, get_or}
use Rattle.rules.specs.Lists.{any_of, first_place}
use Rattle.rules.specs.Selecting.{End}
use Rattle.pair_laws.specs.Sets.{In, InOrder}
use Rattle.pair_laws.specs.Ends.{ByName, ByPlace}
use Rattle.pair_laws.proofs.Order.{two, tf, three}

-- ---- numbers

-- of two numbers the first is at or below the second, or above it
at_or_after : (m n : ℕ) → (m ≤ n) ⊎ (n < m)
at_or_after m n = go (three m n)
  where
    go : (m < n) ⊎ ((m ≡ n) ⊎ (n < m)) → (m ≤ n) ⊎ (n < m)
    go (inl h) = inl (omega arith)
    go (inr (inl h)) = inl (omega arith)
    go (inr (inr h)) = inr h

pub eq_or_lt : (m n : ℕ) → m ≤ n → (m ≡ n) ⊎ (m < n)
eq_or_lt m n h = go (three m n)
  where
    go : (m < n) ⊎ ((m ≡ n) ⊎ (n < m)) → (m ≡ n) ⊎ (m < n)
    go (inl k) = inr k
    go (inr (inl k)) = inl k
    go (inr (inr k)) = absurd (omega arith)

-- ---- ends

-- ends that are named by their places are listed by name
pub place_rises : (l : List End) → ByPlace l → ByName l
place_rises l n = record { rises = λ a b h k. omega (arith, n.placed a (omega arith), n.placed b k) }

-- ---- elements and places

module _ {A : Type 0} (d : A) where
  pub at_in : (l : List A) (p : ℕ) → p < length l → In (get_or l p d) l
  at_in [] p h = absurd (omega arith)
  at_in (x ∷ l) zero h = inl refl
  at_in (x ∷ l) (suc p) h = inr (at_in l p (omega arith))

  pub in_at : (q : A) (l : List A) → In q l → (p : ℕ) × (p < length l) × (get_or l p d ≡ q)
  in_at q [] m = absurd m
  in_at q (x ∷ l) (inl e) = (0, omega arith, sym e)
  in_at q (x ∷ l) (inr m) = (let t = in_at q l m in (suc t.0, omega (arith, t.1), t.2))

  pub order_at : (before : A → A → Bool) (l : List A) → InOrder before l → (p q : ℕ) → p < q → q < length l → before (get_or l p d) (get_or l q d) ≡ true
  order_at before [] o p q h k = absurd (omega arith)
  order_at before (x ∷ l) o p zero h k = absurd (omega arith)
  order_at before (x ∷ l) o zero (suc q) h k = o.0 (get_or l q d) (at_in l q (omega arith))
  order_at before (x ∷ l) o (suc p) (suc q) h k = order_at before l o.1 p q (omega arith) (omega arith)

-- ---- the first that passes

module _ {A : Type 0} (t : A → Bool) where
  pub place_yes : (x : A) (l : List A) → t x ≡ true → first_place t (x ∷ l) ≡ 0
  unfolding first_place
  place_yes x l e = rw (e, first_place)

  pub place_no : (x : A) (l : List A) → t x ≡ false → first_place t (x ∷ l) ≡ suc (first_place t l)
  unfolding first_place
  place_no x l e = rw (e, first_place)

  any_yes : (x : A) (l : List A) → t x ≡ true → any_of t (x ∷ l) ≡ true
  unfolding any_of
  any_yes x l e = rw (e, any_of)

  any_no : (x : A) (l : List A) → t x ≡ false → any_of t (x ∷ l) ≡ any_of t l
  unfolding any_of
  any_no x l e = rw (e, any_of)

  pub in_any : (q : A) (l : List A) → In q l → t q ≡ true → any_of t l ≡ true
  in_any q [] m e = absurd m
  in_any q (x ∷ l) (inl k) e = any_yes x l (sym (ap t k) ∙ e)
  in_any q (x ∷ l) (inr m) e = go (two (t x)) (in_any q l m e)
    where
      go : (t x ≡ true) ⊎ (t x ≡ false) → any_of t l ≡ true → any_of t (x ∷ l) ≡ true
      go (inl k) ih = any_yes x l k
      go (inr k) ih = any_no x l k ∙ ih

  pub any_in : (l : List A) → any_of t l ≡ true → (q : A) × In q l × (t q ≡ true)
  any_in [] e = absurd (tf e (unfold any_of in refl))
  any_in (x ∷ l) e = go (two (t x)) (any_in l)
    where
      go : (t x ≡ true) ⊎ (t x ≡ false) → (any_of t l ≡ true → (q : A) × In q l × (t q ≡ true)) → (q : A) × In q (x ∷ l) × (t q ≡ true)
      go (inl k) ih = (x, inl refl, k)
      go (inr k) ih = (let s = ih (sym (any_no x l k) ∙ e) in (s.0, inr s.1, s.2))

  pub place_most : (l : List A) → first_place t l ≤ length l
  place_most [] = (let e : first_place t [] ≡ 0 = unfold first_place in refl in omega (arith, e))
  place_most (x ∷ l) = go (two (t x)) (place_most l)
    where
      go : (t x ≡ true) ⊎ (t x ≡ false) → first_place t l ≤ length l → first_place t (x ∷ l) ≤ length (x ∷ l)
      go (inl k) ih = omega (arith, place_yes x l k)
      go (inr k) ih = omega (arith, place_no x l k)

  module _ (d : A) where
    -- none before it passes
    pub place_first : (l : List A) (q : ℕ) → q < first_place t l → t (get_or l q d) ≡ false
    place_first [] q h = absurd (let e : first_place t [] ≡ 0 = unfold first_place in refl in omega (arith, e))
    place_first (x ∷ l) q h = go (two (t x)) q h (place_first l)
      where
        go : (t x ≡ true) ⊎ (t x ≡ false) → (q : ℕ) → q < first_place t (x ∷ l) → ((q : ℕ) → q < first_place t l → t (get_or l q d) ≡ false) → t (get_or (x ∷ l) q d) ≡ false
        go (inl k) q h ih = absurd (omega (arith, place_yes x l k))
        go (inr k) zero h ih = k
        go (inr k) (suc q) h ih = ih q (omega (arith, place_no x l k))

    -- it passes, if it is a place of the list
    pub place_passes : (l : List A) → first_place t l < length l → t (get_or l (first_place t l) d) ≡ true
    place_passes [] h = absurd (omega arith)
    place_passes (x ∷ l) h = go (two (t x)) (place_passes l)
      where
        go : (t x ≡ true) ⊎ (t x ≡ false) → (first_place t l < length l → t (get_or l (first_place t l) d) ≡ true) → t (get_or (x ∷ l) (first_place t (x ∷ l)) d) ≡ true
        go (inl k) ih = ap (λ (p : ℕ). t (get_or (x ∷ l) p d)) (place_yes x l k) ∙ k
        go (inr k) ih = ap (λ (p : ℕ). t (get_or (x ∷ l) p d)) (place_no x l k) ∙ ih (omega (arith, place_no x l k))

    -- it is not after one that passes
    pub place_least : (l : List A) (p : ℕ) → t (get_or l p d) ≡ true → first_place t l ≤ p
    place_least l p e = go (at_or_after (first_place t l) p)
      where
        go : (first_place t l ≤ p) ⊎ (p < first_place t l) → first_place t l ≤ p
        go (inl k) = k
        go (inr k) = absurd (tf e (place_first l p k))

    -- one place alone passes after none
    pub place_is : (l : List A) (p : ℕ) → p < length l → t (get_or l p d) ≡ true → ((q : ℕ) → q < p → t (get_or l q d) ≡ false) → p ≡ first_place t l
    place_is l p h e f = go (eq_or_lt (first_place t l) p (place_least l p e))
      where
        go : (first_place t l ≡ p) ⊎ (first_place t l < p) → p ≡ first_place t l
        go (inl k) = sym k
        go (inr k) = absurd (tf (place_passes l (omega arith)) (f (first_place t l) k))
