-- The order of pairs is total: what is not before is at or after, and two pairs neither of which is before the other are one.
use Prim.Native.Nat.{ℕ, ◌≤◌, ◌<◌}
use mathlib.Core.Path.{◌≡◌, refl, sym, ◌∙◌}
use mathlib.Core.Bool.{Bool, true, false, ◌&&◌, ◌||◌}
use mathlib.Core.Logic.{◌⊎◌, inl, inr, ⊎_elim}
use native.Mathlib.Omega.{arith}
use borrow.Author.Tests.{ltb-true, ltb-false, eqb-true, eqb-false, lt-ltb, le-ltb, eq-eqb, ne_eqb}
use lib.Dec.{ltb, eqb}
use Rattle.pair_laws.specs.Ranked.{RankedPair, before}

-- a truth value is one of two
pub two : (b : Bool) → (b ≡ true) ⊎ (b ≡ false)
two true = inl refl
two false = inr refl

pub tf : {b : Bool} → b ≡ true → b ≡ false → ⊥
tf p q = let z : ◌≡◌ {A = ℕ} 0 1 = cc in omega arith

pub and_left : (a b : Bool) → (a && b) ≡ true → a ≡ true
and_left true b e = refl
and_left false b e = e

pub and_right : (a b : Bool) → (a && b) ≡ true → b ≡ true
and_right true b e = e
and_right false b e = absurd (tf e refl)

-- p stands at or before q: by i and j, and by the key first
abbrev pub NotAfter : RankedPair → RankedPair → Type 0
NotAfter p q = (p.i < q.i) ⊎ ((p.i ≡ q.i) × (p.j ≤ q.j))

abbrev pub AtBefore : RankedPair → RankedPair → Type 0
AtBefore p q = (p.key < q.key) ⊎ ((p.key ≡ q.key) × NotAfter p q)

pub at_before : (p q : RankedPair) → before q p ≡ false → AtBefore p q
unfolding before
at_before p q = keys (ltb q.key p.key) (eqb q.key p.key) (ltb q.i p.i) (eqb q.i p.i) (ltb q.j p.j) refl refl refl refl refl
  where
    keys : (a b c d e : Bool) → ltb q.key p.key ≡ a → eqb q.key p.key ≡ b → ltb q.i p.i ≡ c → eqb q.i p.i ≡ d → ltb q.j p.j ≡ e
        → (a || b && (c || d && e)) ≡ false → AtBefore p q
    keys true b c d e ha hb hc hd he h = absurd (tf refl h)
    keys false false c d e ha hb hc hd he h =
        inl (omega (arith, ltb-false q.key p.key ha, eqb-false q.key p.key hb))
    keys false true true d e ha hb hc hd he h = absurd (tf refl h)
    keys false true false false e ha hb hc hd he h =
        inr (sym (eqb-true q.key p.key hb), inl (omega (arith, ltb-false q.i p.i hc, eqb-false q.i p.i hd)))
    keys false true false true true ha hb hc hd he h = absurd (tf refl h)
    keys false true false true false ha hb hc hd he h =
        inr (sym (eqb-true q.key p.key hb), inr (sym (eqb-true q.i p.i hd), ltb-false q.j p.j he))

pub of_at_before : (p q : RankedPair) → AtBefore p q → before q p ≡ false
unfolding before
of_at_before p q (inl h) =
    rw (le-ltb q.key p.key (omega arith), ne_eqb q.key p.key (omega arith))
of_at_before p q (inr h) = ⊎_elim (λ (k : p.i < q.i). below k) (λ (k : (p.i ≡ q.i) × (p.j ≤ q.j)). level k) h.1
  where
    level_key : ltb q.key p.key ≡ false
    level_key = le-ltb q.key p.key (omega (arith, h.0))

    below : p.i < q.i → before q p ≡ false
    below k =
        rw (level_key, eq-eqb q.key p.key (sym h.0), le-ltb q.i p.i (omega arith), ne_eqb q.i p.i (omega arith))

    level : (p.i ≡ q.i) × (p.j ≤ q.j) → before q p ≡ false
    level k =
        rw (level_key, eq-eqb q.key p.key (sym h.0), le-ltb q.i p.i (omega arith), eq-eqb q.i p.i (sym k.0), le-ltb q.j p.j k.1)

at_before_trans : (p q r : RankedPair) → AtBefore p q → AtBefore q r → AtBefore p r
at_before_trans p q r (inl h) (inl k) = inl (omega arith)
at_before_trans p q r (inl h) (inr k) = inl (omega (arith, k.0))
at_before_trans p q r (inr h) (inl k) = inl (omega (arith, h.0))
at_before_trans p q r (inr h) (inr k) = inr (h.0 ∙ k.0, ends h.1 k.1)
  where
    ends : NotAfter p q → NotAfter q r → NotAfter p r
    ends (inl a) (inl b) = inl (omega arith)
    ends (inl a) (inr b) = inl (omega (arith, b.0))
    ends (inr a) (inl b) = inl (omega (arith, a.0))
    ends (inr a) (inr b) = inr (omega arith, omega arith)

at_before_antisym : (p q : RankedPair) → AtBefore p q → AtBefore q p → p ≡ q
at_before_antisym p q (inl h) (inl k) = absurd (omega arith)
at_before_antisym p q (inl h) (inr k) = absurd (omega (arith, k.0))
at_before_antisym p q (inr h) (inl k) = absurd (omega (arith, h.0))
at_before_antisym p q (inr h) (inr k) = λ t. record { key = h.0 t; i = (ends h.1 k.1).0 t; j = (ends h.1 k.1).1 t }
  where
    ends : NotAfter p q → NotAfter q p → (p.i ≡ q.i) × (p.j ≡ q.j)
    ends (inl a) (inl b) = absurd (omega arith)
    ends (inl a) (inr b) = absurd (omega (arith, b.0))
    ends (inr a) (inl b) = absurd (omega (arith, a.0))
    ends (inr a) (inr b) = (a.0, omega arith)

-- below, `before q p ≡ false` is read: p stands at or before q

pub least_trans : (p q r : RankedPair) → before q p ≡ false → before r q ≡ false → before r p ≡ false
least_trans p q r h k = of_at_before p r (at_before_trans p q r (at_before p q h) (at_before q r k))

pub antisym : (p q : RankedPair) → before q p ≡ false → before p q ≡ false → p ≡ q
antisym p q h k = at_before_antisym p q (at_before p q h) (at_before q p k)

pub irrefl : (p : RankedPair) → before p p ≡ false
irrefl p = of_at_before p p (inr (refl, inr (refl, omega arith)))

-- of two numbers one is below the other, or they are equal
abbrev pub Three : ℕ → ℕ → Type 0
Three m n = (m < n) ⊎ ((m ≡ n) ⊎ (n < m))

pub three : (m n : ℕ) → Three m n
three m n = go (ltb m n) (ltb n m) refl refl
  where
    go : (a b : Bool) → ltb m n ≡ a → ltb n m ≡ b → Three m n
    go true b ha hb = inl (ltb-true m n ha)
    go false true ha hb = inr (inr (ltb-true n m hb))
    go false false ha hb = inr (inl (omega (arith, ltb-false m n ha, ltb-false n m hb)))

total : (p q : RankedPair) → AtBefore p q ⊎ AtBefore q p
total p q = keys (three p.key q.key) (three p.i q.i) (three p.j q.j)
  where
    keys : Three p.key q.key → Three p.i q.i → Three p.j q.j
        → AtBefore p q ⊎ AtBefore q p
    keys (inl a) y z = inl (inl a)
    keys (inr (inr a)) y z = inr (inl a)
    keys (inr (inl a)) (inl b) z = inl (inr (a, inl b))
    keys (inr (inl a)) (inr (inr b)) z = inr (inr (sym a, inl b))
    keys (inr (inl a)) (inr (inl b)) (inl c) = inl (inr (a, inr (b, omega arith)))
    keys (inr (inl a)) (inr (inl b)) (inr (inl c)) = inl (inr (a, inr (b, omega arith)))
    keys (inr (inl a)) (inr (inl b)) (inr (inr c)) = inr (inr (sym a, inr (sym b, omega arith)))

-- what stands before does not stand after
pub asym : (p q : RankedPair) → before p q ≡ true → before q p ≡ false
asym p q h = ⊎_elim (λ (k : AtBefore p q). of_at_before p q k) (λ (k : AtBefore q p). absurd (tf h (of_at_before q p k))) (total p q)

-- p before q, and q at or before r: p before r
pub before_trans : (p q r : RankedPair) → before p q ≡ true → before r q ≡ false → before p r ≡ true
before_trans p q r h k = ⊎_elim (λ (e : before p r ≡ true). e) (λ (e : before p r ≡ false). absurd (tf h (least_trans q r p k e))) (two (before p r))

-- a pair that is no other and is not before it is after it
pub apart : (p q : RankedPair) → before q p ≡ false → (p ≡ q → ⊥) → before p q ≡ true
apart p q h n = ⊎_elim (λ (e : before p q ≡ true). e) (λ (e : before p q ≡ false). absurd (n (antisym p q h e))) (two (before p q))

-- keys rise with the order
pub key_le_lem : (p q : RankedPair) → before q p ≡ false → p.key ≤ q.key
key_le_lem p q h = ⊎_elim (λ (k : p.key < q.key). omega arith) (λ (k : (p.key ≡ q.key) × NotAfter p q). omega (arith, k.0)) (at_before p q h)

pub lower_key : (p q : RankedPair) → p.key < q.key → before p q ≡ true
unfolding before
lower_key p q h = rw (lt-ltb p.key q.key h)
