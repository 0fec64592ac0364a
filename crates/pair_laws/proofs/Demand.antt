-- Demand 3. For two limits, the second not below the first, the selection under the first is exactly the pairs of the selection under the second
-- whose measure isn't above the first limit, in the same order, and stands at the beginning of that list. True since what is above the first limit
-- stands, in the order, after all that isn't, so that it is taken when the rest is done; and sorting goes with keeping some of the pairs.
use Prim.Native.Nat.{ℕ}
use mathlib.Core.Path.{◌≡◌, refl, sym, ◌∙◌, ap, ap₂, subst}
use mathlib.Core.Bool.{Bool, true, false, not, ◌||◌}
use mathlib.Core.Logic.{◌⊎◌, inl, inr}
use mathlib.Core.List.{List, [], ◌∷◌, ◌++◌}
use lib.Dec.{T, eqb}
use lib.Ieee.{Float, le}
use borrow.Author.Tests.{le-leb}
use Rattle.rules.specs.Answers.{Direction}
use Rattle.rules.specs.Answers.{Absent, Toward}
use Rattle.rules.specs.Lists.{keep, stands}
use Rattle.rules.specs.Plane.{measure}
use Rattle.rules.specs.Selecting.{End, Pair, within, pair, pairs_with, qualifying, before, sorted, greedy, select}
use Rattle.float_order.proofs.Order.{trans}
use Rattle.float_order.proofs.Keys.{key_le_is}
use Rattle.pair_laws.specs.Sets.{In, Sorted}
use Rattle.pair_laws.specs.Ends.{keyed}
use Rattle.pair_laws.proofs.Order.{two, key_le_lem}
use Rattle.pair_laws.proofs.Lists.{keep_yes, keep_no, keep_none, keep_all, keep_append}
use Rattle.pair_laws.proofs.Sort.{sorted_sort, keep_sort}
use Rattle.pair_laws.proofs.Qualifying.{Measured, qualifying_measured}
use Rattle.pair_laws.proofs.Keyed.{before_keyed, before_asym, before_least_trans, sorted_is, in_sorted, greedy_taken, greedy_next, in_greedy, in_select}

-- the pair's measure isn't above the limit, and is
abbrev pub low : Float → Pair → Bool
low limit p = le p.size limit

abbrev pub high : Float → Pair → Bool
high limit p = not (le p.size limit)

-- ---- the order

-- a measure does not fall in the order
le_before : (p q : Pair) → Measured p → Measured q → before q p ≡ false → T (le p.size q.size)
le_before p q m n h =
    subst T
    (sym (key_le_is p.size q.size m.fitting n.fitting n.number ∙ le-leb _ _ (key_le_lem (keyed p) (keyed q) (sym (before_keyed q p n m) ∙ h))))
    tt

-- what stands after a pair above the limit is above it
stays_high : (limit : Float) (p q : Pair) → Measured p → Measured q → before q p ≡ false → low limit p ≡ false → low limit q ≡ false
stays_high limit p q m n h e = go (two (low limit q))
  where
    go : (low limit q ≡ true) ⊎ (low limit q ≡ false) → low limit q ≡ false
    go (inl k) = absurd (subst T e (trans p.size q.size limit (le_before p q m n h) (subst T (sym k) tt)))
    go (inr k) = k

all_high : (limit : Float) (x : Pair) (xs : List Pair) → Sorted before (x ∷ xs) → ((q : Pair) → In q (x ∷ xs) → Measured q) → low limit x ≡ false
    → (q : Pair) → In q (x ∷ xs) → low limit q ≡ false
all_high limit x xs s h e q (inl k) = ap (low limit) k ∙ e
all_high limit x xs s h e q (inr k) = stays_high limit x q (h x (inl refl)) (h q (inr k)) (s.0 q k) e

-- ---- qualifying

module _ (l₁ l₂ : Float) (l₁≤l₂ : le l₁ l₂ ≡ true) where
  within_keep : (i j : ℕ) (a b : Direction) → within l₁ i j a b ≡ keep (low l₁) (within l₂ i j a b)
  unfolding within
  within_keep i j Absent b = unfold keep in refl
  within_keep i j (Toward ax ay) Absent = unfold keep in refl
  within_keep i j (Toward ax ay) (Toward bx by) = go (two (le (measure ax ay bx by) l₁)) (two (le (measure ax ay bx by) l₂))
    where
      both : le (measure ax ay bx by) l₁ ≡ true → le (measure ax ay bx by) l₂ ≡ false → ⊥
      both e f = subst T f (trans (measure ax ay bx by) l₁ l₂ (subst T (sym e) tt) (subst T (sym l₁≤l₂) tt))

      it : Pair
      it = record { size = measure ax ay bx by; i = i; j = j }

      none : ◌≡◌ {A = List Pair} [] (keep (low l₁) [])
      none = unfold keep in refl

      go : (le (measure ax ay bx by) l₁ ≡ true) ⊎ (le (measure ax ay bx by) l₁ ≡ false)
          → (le (measure ax ay bx by) l₂ ≡ true) ⊎ (le (measure ax ay bx by) l₂ ≡ false)
          → within l₁ i j (Toward ax ay) (Toward bx by) ≡ keep (low l₁) (within l₂ i j (Toward ax ay) (Toward bx by))
      go (inl e) (inl f) = rw (e, f, within) (ap {B = List Pair} (λ l. it ∷ l) none ∙ sym (keep_yes (low l₁) it [] e))
      go (inl e) (inr f) = absurd (both e f)
      go (inr e) (inl f) = rw (e, f, within) (none ∙ sym (keep_no (low l₁) it [] e))
      go (inr e) (inr f) = rw (e, f, within) none

  pair_keep : (a b : End) → pair l₁ a b ≡ keep (low l₁) (pair l₂ a b)
  unfolding pair
  pair_keep a b = go (eqb a.piece b.piece)
    where
      go : (t : Bool)
          → ◌≡◌ {A = List Pair} (elim t [ true ↦ [] | false ↦ within l₁ a.name b.name a.direction b.direction ])
          (keep (low l₁) (elim t [ true ↦ [] | false ↦ within l₂ a.name b.name a.direction b.direction ]))
      go true = unfold keep in refl
      go false = within_keep a.name b.name a.direction b.direction

  with_keep : (a : End) (l : List End) → pairs_with l₁ a l ≡ keep (low l₁) (pairs_with l₂ a l)
  unfolding pairs_with
  with_keep a [] = unfold keep in refl
  with_keep a (b ∷ l) = ap₂ ◌++◌ (pair_keep a b) (with_keep a l) ∙ sym (keep_append (low l₁) (pair l₂ a b) (pairs_with l₂ a l))

  qualifying_keep : (l : List End) → qualifying l₁ l ≡ keep (low l₁) (qualifying l₂ l)
  unfolding qualifying
  qualifying_keep [] = unfold keep in refl
  qualifying_keep (a ∷ l) = ap₂ ◌++◌ (with_keep a l) (qualifying_keep l) ∙ sym (keep_append (low l₁) (pairs_with l₂ a l) (qualifying l₂ l))

-- ---- sorting

sorted_sorted : (l : List Pair) → ((q : Pair) → In q l → Measured q) → Sorted before (sorted l)
sorted_sorted l h = subst (Sorted before) (sym (sorted_is l)) (sorted_sort before Measured before_asym before_least_trans l h)

keep_sorted : (f : Pair → Bool) (l : List Pair) → ((q : Pair) → In q l → Measured q) → keep f (sorted l) ≡ sorted (keep f l)
keep_sorted f l h =
    ap (keep f) (sorted_is l) ∙ keep_sort before Measured before_asym before_least_trans f l h ∙ sym (sorted_is (keep f l))

-- ---- taking

greedy_keep : (limit : Float) (taken : List ℕ) (l : List Pair) → Sorted before l → ((q : Pair) → In q l → Measured q)
    → greedy taken (keep (low limit) l) ≡ keep (low limit) (greedy taken l)
greedy_keep limit taken [] s h = unfold keep greedy in refl
greedy_keep limit taken (x ∷ xs) s h =
    go (two (low limit x)) (two (stands x.i taken || stands x.j taken))
    (greedy_keep limit taken xs s.1 (λ q m. h q (inr m)))
    (greedy_keep limit (x.i ∷ x.j ∷ taken) xs s.1 (λ q m. h q (inr m)))
  where
    f : Pair → Bool
    f = low limit

    nothing : greedy taken [] ≡ []
    nothing = unfold greedy in refl

    go : (f x ≡ true) ⊎ (f x ≡ false) → ((stands x.i taken || stands x.j taken) ≡ true) ⊎ ((stands x.i taken || stands x.j taken) ≡ false)
        → greedy taken (keep f xs) ≡ keep f (greedy taken xs)
        → greedy (x.i ∷ x.j ∷ taken) (keep f xs) ≡ keep f (greedy (x.i ∷ x.j ∷ taken) xs)
        → greedy taken (keep f (x ∷ xs)) ≡ keep f (greedy taken (x ∷ xs))
    go (inl e) (inl b) ih ih' = rw (keep_yes f x xs e, greedy_taken taken x (keep f xs) b, greedy_taken taken x xs b) ih
    go (inl e) (inr b) ih ih' =
        rw (keep_yes f x xs e, greedy_next taken x (keep f xs) b, greedy_next taken x xs b, keep_yes f x (greedy (x.i ∷ x.j ∷ taken) xs) e, ih')
    go (inr e) b ih ih' =
        ap (greedy taken) (keep_none f (x ∷ xs) (all_high limit x xs s h e))
        ∙ nothing
        ∙ sym (keep_none f (greedy taken (x ∷ xs)) (λ q m. all_high limit x xs s h e q (in_greedy q taken (x ∷ xs) m)))

greedy_sorted : (taken : List ℕ) (l : List Pair) → Sorted before l → Sorted before (greedy taken l)
greedy_sorted taken [] s = unfold greedy in tt
greedy_sorted taken (x ∷ xs) s =
    go (two (stands x.i taken || stands x.j taken)) (greedy_sorted taken xs s.1) (greedy_sorted (x.i ∷ x.j ∷ taken) xs s.1)
  where
    go : ((stands x.i taken || stands x.j taken) ≡ true) ⊎ ((stands x.i taken || stands x.j taken) ≡ false)
        → Sorted before (greedy taken xs) → Sorted before (greedy (x.i ∷ x.j ∷ taken) xs) → Sorted before (greedy taken (x ∷ xs))
    go (inl b) ih ih' = subst (Sorted before) (sym (greedy_taken taken x xs b)) ih
    go (inr b) ih ih' =
        subst (Sorted before) (sym (greedy_next taken x xs b)) (λ q m. s.0 q (in_greedy q (x.i ∷ x.j ∷ taken) xs m), ih')

-- a list in order is its low pairs, and then its high ones
low_high : (limit : Float) (s : List Pair) → Sorted before s → ((q : Pair) → In q s → Measured q) → s ≡ keep (low limit) s ++ keep (high limit) s
low_high limit [] o h = unfold keep in refl
low_high limit (x ∷ xs) o h = go (two (low limit x)) (low_high limit xs o.1 (λ q m. h q (inr m)))
  where
    go : (low limit x ≡ true) ⊎ (low limit x ≡ false) → xs ≡ keep (low limit) xs ++ keep (high limit) xs
        → x ∷ xs ≡ keep (low limit) (x ∷ xs) ++ keep (high limit) (x ∷ xs)
    go (inl e) ih = rw (keep_yes (low limit) x xs e, keep_no (high limit) x xs (ap not e)) (ap {B = List Pair} (λ l. x ∷ l) ih)
    go (inr e) ih =
        rw (keep_none (low limit) (x ∷ xs) (all_high limit x xs o h e))
        (sym (keep_all (high limit) (x ∷ xs) (λ q m. ap not (all_high limit x xs o h e q m))))

-- ---- the demand

select_sorted : (limit : Float) (ends : List End) → Sorted before (select limit ends)
unfolding select
select_sorted limit ends =
    greedy_sorted [] (sorted (qualifying limit ends)) (sorted_sorted (qualifying limit ends) (qualifying_measured limit ends))

module _ (l₁ l₂ : Float) (ends : List End) (l₁≤l₂ : le l₁ l₂ ≡ true) where
  pub select_low : select l₁ ends ≡ keep (λ p. le p.size l₁) (select l₂ ends)
  unfolding select
  select_low =
      ap (λ (l : List Pair). greedy [] (sorted l)) (qualifying_keep l₁ l₂ l₁≤l₂ ends)
      ∙ ap (greedy []) (sym (keep_sorted (low l₁) (qualifying l₂ ends) (qualifying_measured l₂ ends)))
      ∙ greedy_keep l₁ [] (sorted (qualifying l₂ ends)) (sorted_sorted (qualifying l₂ ends) (qualifying_measured l₂ ends))
      (λ q m. qualifying_measured l₂ ends q (in_sorted q (qualifying l₂ ends) m))

  pub select_begins : select l₂ ends ≡ select l₁ ends ++ keep (λ p. not (le p.size l₁)) (select l₂ ends)
  select_begins =
      low_high l₁ (select l₂ ends) (select_sorted l₂ ends) (λ q m. qualifying_measured l₂ ends q (in_select l₂ ends q m))
      ∙ ap (λ (l : List Pair). l ++ keep (high l₁) (select l₂ ends)) (sym select_low)
