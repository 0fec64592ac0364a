-- A settled set, listed without repeats in whatever order, is the selection once it is sorted. Of two qualifying pairs that differ one comes before the other,
-- so that sorting puts them strictly in order; it keeps the pairs, and so what is settled stays settled.
use mathlib.Core.Path.{◌≡◌, refl, sym, ◌∙◌}
use mathlib.Core.Bool.{Bool, true, false}
use mathlib.Core.Logic.{◌⊎◌, inl, inr, ⊎_elim}
use mathlib.Core.List.{List, [], ◌∷◌}
use lib.Ieee.{Float}
use Rattle.rules.specs.Selecting.{End, Pair, qualifying, before, sorted, select}
use Rattle.pair_laws.specs.Ranked.{insert, sort}
use Rattle.pair_laws.specs.Sets.{In, Blocked}
use Rattle.pair_laws.specs.Ends.{ByName, keyed}
use Rattle.pair_laws.specs.Settled.{shares, Settled, InOrder}
use Rattle.pair_laws.proofs.Order.{two, antisym, asym, before_trans}
use Rattle.pair_laws.proofs.Sort.{in_insert, in_sort, sort_in}
use Rattle.pair_laws.proofs.Qualifying.{Measured, qualifying_measured}
use Rattle.pair_laws.proofs.Keyed.{before_keyed, sorted_is}
use Rattle.pair_laws.proofs.Settled.{known_keyed, settled_is}
use Rattle.pair_reasons.specs.Told.{NoRepeats}

-- the order of measured pairs is transitive
pub before_then : (p q r : Pair) → Measured p → Measured q → Measured r → before p q ≡ true → before q r ≡ true → before p r ≡ true
before_then p q r l m n h k =
    before_keyed p r l n
    ∙ before_trans (keyed p) (keyed q) (keyed r) (sym (before_keyed p q l m) ∙ h) (asym (keyed q) (keyed r) (sym (before_keyed q r m n) ∙ k))

module _ (limit : Float) (l : List End) (n : ByName l) where
  abbrev Qualifies : Pair → Type 0
  Qualifies p = In p (qualifying limit l)

  measured : (p : Pair) → Qualifies p → Measured p
  measured p g = qualifying_measured limit l p g

  -- of two that differ one comes before the other
  other_before : (p q : Pair) → Qualifies p → Qualifies q → (p ≡ q → ⊥) → before p q ≡ false → before q p ≡ true
  other_before p q g h d e = go (two (before q p))
    where
      go : (before q p ≡ true) ⊎ (before q p ≡ false) → before q p ≡ true
      go (inl k) = k
      go (inr k) =
          absurd (d (known_keyed limit l n p q g h
          (antisym (keyed p) (keyed q) (sym (before_keyed q p (measured q h) (measured p g)) ∙ k) (sym (before_keyed p q (measured p g) (measured q h)) ∙ e))))

  -- ---- sorting puts them strictly in order

  insert_ordered : (p : Pair) (s : List Pair) → Qualifies p → ((q : Pair) → In q s → Qualifies q) → (In p s → ⊥) → InOrder s → InOrder (insert before p s)
  unfolding insert
  insert_ordered p [] g h d o = (λ q m. absurd m, tt)
  insert_ordered p (x ∷ s) g h d o = go (before p x) refl (insert_ordered p s g (λ q m. h q (inr m)) (λ m. d (inr m)) o.1)
    where
      go : (b : Bool) → before p x ≡ b → InOrder (insert before p s)
          → InOrder (elim b as (λ _. List Pair) [ true ↦ p ∷ x ∷ s | false ↦ x ∷ insert before p s ])
      go true e ih = (first, o)
        where
          first : (q : Pair) → In q (x ∷ s) → before p q ≡ true
          first q (inl m) = rw m e
          first q (inr m) = before_then p x q (measured p g) (measured x (h x (inl refl))) (measured q (h q (inr m))) e (o.0 q m)
      go false e ih = (rest, ih)
        where
          rest : (q : Pair) → In q (insert before p s) → before x q ≡ true
          rest q m =
              ⊎_elim
              (λ (k : q ≡ p). rw k (other_before p x g (h x (inl refl)) (λ z. d (inl z)) e))
              (λ (k : In q s). o.0 q k)
              (in_insert before p q s m)

  sort_ordered : (s : List Pair) → ((q : Pair) → In q s → Qualifies q) → NoRepeats s → InOrder (sort before s)
  unfolding sort
  sort_ordered [] h d = tt
  sort_ordered (x ∷ s) h d =
      insert_ordered x (sort before s) (h x (inl refl)) (λ q m. h q (inr (in_sort before q s m))) (λ m. d.0 (in_sort before x s m))
      (sort_ordered s (λ q m. h q (inr m)) d.1)

  -- ---- and keeps the set

  pub settled_sorted : (s : List Pair) → Settled (qualifying limit l) s → NoRepeats s → sorted s ≡ select limit l
  settled_sorted s h d = sorted_is s ∙ settled_is limit l n (sort before s) settled (sort_ordered s h.within d)
    where
      settled : Settled (qualifying limit l) (sort before s)
      settled = record {
        within = λ p m. h.within p (in_sort before p s m);
        apart = λ p q m k e. h.apart p q (in_sort before p s m) (in_sort before q s k) e;
        blocked = λ p m.
            ⊎_elim
            (λ (k : In p s). inl (sort_in before p s k))
            (λ (k : Blocked before shares s p). inr (k.0, sort_in before k.0 s k.1, k.2, k.3))
            (h.blocked p m);
      }
