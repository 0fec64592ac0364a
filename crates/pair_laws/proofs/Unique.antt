-- One list alone is in order, has no two pairs that share an end, and blocks each pair that it lacks: what is taken from left to right.
use Prim.Native.Nat.{ℕ}
use mathlib.Core.Path.{◌≡◌, refl, sym, ◌∙◌, ap}
use mathlib.Core.Bool.{Bool, true, false}
use mathlib.Core.Logic.{◌⊎◌, inl, inr, ⊎_elim}
use mathlib.Core.List.{List, [], ◌∷◌}
use Rattle.pair_laws.specs.Ranked.{RankedPair, before, mark, busy, greedy}
use Rattle.pair_laws.specs.Sets.{In, Sorted, InOrder, shares, Blocked}
use Rattle.pair_laws.proofs.Order.{two, tf, irrefl}
use Rattle.pair_laws.proofs.Greedy.{greedy_nil, greedy_busy, greedy_free, busy_more, busy_shared, busy_cases, shares_self}

-- s is settled in l, where the ends `used` are taken already
pub record SettledFrom (used : ℕ → Bool) (l s : List RankedPair) : Type 0 where
  pub ordered : InOrder before s
  pub within : (p : RankedPair) → In p s → In p l
  pub free : (p : RankedPair) → In p s → busy used p ≡ false
  pub apart : (p q : RankedPair) → In p s → In q s → shares p q ≡ true → p ≡ q
  pub blocked : (p : RankedPair) → In p l → (busy used p ≡ true) ⊎ (In p s ⊎ Blocked before shares s p)

-- the first pair of l is busy: it is not in s
skipped : (used : ℕ → Bool) (x : RankedPair) (xs s : List RankedPair) → busy used x ≡ true → SettledFrom used (x ∷ xs) s → SettledFrom used xs s
skipped used x xs s b h = record {
  ordered = h.ordered;
  within = λ p m. ⊎_elim (λ (e : p ≡ x). absurd (tf (ap (busy used) e ∙ b) (h.free p m))) (λ (k : In p xs). k) (h.within p m);
  free = h.free;
  apart = h.apart;
  blocked = λ p m. h.blocked p (inr m);
}

not_before_first : (x : RankedPair) (xs : List RankedPair) → Sorted before (x ∷ xs) → (b : RankedPair) → In b (x ∷ xs) → before b x ≡ true → ⊥
not_before_first x xs s b (inl e) h = tf h (ap (λ (t : RankedPair). before t x) e ∙ irrefl x)
not_before_first x xs s b (inr m) h = tf h (s.0 b m)

-- the first pair of l is free: it is the first of s
taken : (used : ℕ → Bool) (x : RankedPair) (xs : List RankedPair) (y : RankedPair) (ys : List RankedPair) → Sorted before (x ∷ xs) → busy used x ≡ false
    → SettledFrom used (x ∷ xs) (y ∷ ys) → x ≡ y
taken used x xs y ys s b h = which (h.blocked x (inl refl))
  where
    here : In x (y ∷ ys) → x ≡ y
    here (inl e) = e
    here (inr m) = absurd (not_before_first x xs s y (h.within y (inl refl)) (h.ordered.0 x m))

    which : (busy used x ≡ true) ⊎ (In x (y ∷ ys) ⊎ Blocked before shares (y ∷ ys) x) → x ≡ y
    which (inl e) = absurd (tf e b)
    which (inr (inl m)) = here m
    which (inr (inr k)) = absurd (not_before_first x xs s k.0 (h.within k.0 k.1) k.2)

none_left : (used : ℕ → Bool) (x : RankedPair) (xs : List RankedPair) → busy used x ≡ false → SettledFrom used (x ∷ xs) [] → ⊥
none_left used x xs b h = which (h.blocked x (inl refl))
  where
    which : (busy used x ≡ true) ⊎ (In x [] ⊎ Blocked before shares [] x) → ⊥
    which (inl e) = tf e b
    which (inr (inl m)) = m
    which (inr (inr k)) = k.1

-- the rest of s is settled in the rest of l, with the ends of the first taken too
rest : (used : ℕ → Bool) (x : RankedPair) (xs : List RankedPair) (y : RankedPair) (ys : List RankedPair) → x ≡ y → SettledFrom used (x ∷ xs) (y ∷ ys) → SettledFrom (mark x used) xs ys
rest used x xs y ys e h = record {
  ordered = h.ordered.1;
  within = λ p m. ⊎_elim (λ (k : p ≡ x). absurd (later p m (sym (k ∙ e)))) (λ (k : In p xs). k) (h.within p (inr m));
  free = free;
  apart = λ p q m n. h.apart p q (inr m) (inr n);
  blocked = λ p m. blocked p (h.blocked p (inr m));
}
  where
    later : (p : RankedPair) → In p ys → y ≡ p → ⊥
    later p m k = tf (h.ordered.0 p m) (ap (before y) (sym k) ∙ irrefl y)

    free : (p : RankedPair) → In p ys → busy (mark x used) p ≡ false
    free p m = ⊎_elim
        (λ (b : busy (mark x used) p ≡ true). absurd (⊎_elim
        (λ (k : shares x p ≡ true). later p m (h.apart y p (inl refl) (inr m) (sym (ap (λ (t : RankedPair). shares t p) e) ∙ k)))
        (λ (k : busy used p ≡ true). tf k (h.free p (inr m)))
        (busy_cases x p used b)))
        (λ (b : busy (mark x used) p ≡ false). b)
        (two (busy (mark x used) p))

    blocked : (p : RankedPair) → (busy used p ≡ true) ⊎ (In p (y ∷ ys) ⊎ Blocked before shares (y ∷ ys) p)
        → (busy (mark x used) p ≡ true) ⊎ (In p ys ⊎ Blocked before shares ys p)
    blocked p (inl b) = inl (busy_more x p used b)
    blocked p (inr (inl (inl k))) = inl (busy_shared x p used (ap (shares x) (k ∙ sym e) ∙ shares_self x))
    blocked p (inr (inl (inr k))) = inr (inl k)
    blocked p (inr (inr (b, inl k, c, d))) = inl (busy_shared x p used (ap (λ (t : RankedPair). shares t p) (e ∙ sym k) ∙ d))
    blocked p (inr (inr (b, inr k, c, d))) = inr (inr (b, k, c, d))

pub unique_from : (used : ℕ → Bool) (l : List RankedPair) → Sorted before l → (s : List RankedPair) → SettledFrom used l s → s ≡ greedy used l
unique_from used [] o [] h = sym (greedy_nil used)
unique_from used [] o (y ∷ ys) h = absurd (h.within y (inl refl))
unique_from used (x ∷ xs) o [] h = ⊎_elim
    (λ (b : busy used x ≡ true). unique_from used xs o.1 [] (skipped used x xs [] b h) ∙ sym (greedy_busy used x xs b))
    (λ (b : busy used x ≡ false). absurd (none_left used x xs b h))
    (two (busy used x))
unique_from used (x ∷ xs) o (y ∷ ys) h = ⊎_elim
    (λ (b : busy used x ≡ true). unique_from used xs o.1 (y ∷ ys) (skipped used x xs (y ∷ ys) b h) ∙ sym (greedy_busy used x xs b))
    (λ (b : busy used x ≡ false).
    let e : x ≡ y = taken used x xs y ys o b h in
    ap (λ (t : RankedPair). t ∷ ys) (sym e)
    ∙ ap (λ (t : List RankedPair). x ∷ t) (unique_from (mark x used) xs o.1 ys (rest used x xs y ys e h))
    ∙ sym (greedy_free used x xs b))
    (two (busy used x))
