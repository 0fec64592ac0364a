-- The lazy law: where each entry is at or before what its owner still has, the least entry, if its pair is free, is the next pair.
use Prim.Native.Nat.{ℕ}
use mathlib.Core.Path.{◌≡◌, refl, sym, ◌∙◌, ap}
use mathlib.Core.Bool.{Bool, true, false, ◌||◌}
use mathlib.Core.Logic.{◌⊎◌, inl, inr, ⊎_elim}
use mathlib.Core.List.{List}
use Rattle.pair_laws.specs.Ranked.{RankedPair, before, busy}
use Rattle.pair_laws.specs.Sets.{In, Entry, EndOf, Covers, Enough, Least}
use Rattle.pair_laws.proofs.Order.{two, tf, least_trans}

module _ (used : ℕ → Bool) (l : List RankedPair) (active : ℕ → Bool) where
  -- a least entry whose pair is free is the least free pair
  pub lazy_least : (h : Entry → Type 0) → Covers used l active h → Enough used l active
      → (m : Entry) → ((e : Entry) → h e → before e.best m.best ≡ false) → In m.best l → busy used m.best ≡ false → Least used l m.best
  lazy_least h c n m f k b = record { member = k; free = b; first = first }
    where
      first : (q : RankedPair) → In q l → busy used q ≡ false → before q m.best ≡ false
      first q i g =
          let t = n q i g in
          let e = c t.0 t.1 t.2 t.3 t.5 t.6 in
          least_trans m.best t.0 q (least_trans m.best e.0.best t.0 (f e.0 e.1) e.3) t.4

  -- with no entry left, no pair is free
  pub lazy_done : (h : Entry → Type 0) → Covers used l active h → Enough used l active → ((e : Entry) → h e → ⊥) → (q : RankedPair) → In q l → busy used q ≡ true
  lazy_done h c n f q i = ⊎_elim (λ (b : busy used q ≡ true). b) (λ (b : busy used q ≡ false). none b) (two (busy used q))
    where
      none : busy used q ≡ false → busy used q ≡ true
      none b =
          let t = n q i b in
          let e = c t.0 t.1 t.2 t.3 t.5 t.6 in
          absurd (f e.0 e.1)

-- a taken end has no free pair
pub taken_end : (used : ℕ → Bool) (o : ℕ) → used o ≡ true → (q : RankedPair) → busy used q ≡ false → EndOf o q → ⊥
unfolding busy
taken_end used o u q b (inl e) = tf (left (used q.i) (used q.j) (ap used (sym e) ∙ u)) b
  where
    left : (x y : Bool) → x ≡ true → (x || y) ≡ true
    left true y h = refl
    left false y h = absurd (tf h refl)
taken_end used o u q b (inr e) = tf (right (used q.i) (used q.j) (ap used (sym e) ∙ u)) b
  where
    right : (x y : Bool) → y ≡ true → (x || y) ≡ true
    right true y h = refl
    right false y h = h
