-- Taking from left to right: what is taken, what blocks the rest, and that nothing else does.
use Prim.Native.Nat.{ℕ}
use mathlib.Core.Path.{◌≡◌, refl, sym, ◌∙◌, ap}
use mathlib.Core.Bool.{Bool, true, false, ◌||◌}
use mathlib.Core.Logic.{◌⊎◌, inl, inr, ⊎_elim}
use mathlib.Core.List.{List, [], ◌∷◌}
use lib.Dec.{eqb}
use borrow.Author.Tests.{eqb-true, eq-eqb, ne_eqb, eqb-false}
use Rattle.pair_laws.specs.Ranked.{RankedPair, before, mark, busy, greedy}
use Rattle.pair_laws.specs.Sets.{In, Sorted, InOrder, shares, Blocked, Least}
use Rattle.pair_laws.proofs.Order.{two, tf, antisym, apart}

pub greedy_busy : (used : ℕ → Bool) (p : RankedPair) (ps : List RankedPair) → busy used p ≡ true → greedy used (p ∷ ps) ≡ greedy used ps
unfolding greedy
greedy_busy used p ps e = rw (e, greedy)

pub greedy_free : (used : ℕ → Bool) (p : RankedPair) (ps : List RankedPair) → busy used p ≡ false → greedy used (p ∷ ps) ≡ p ∷ greedy (mark p used) ps
unfolding greedy
greedy_free used p ps e = rw (e, greedy)

six : (a b c d u v : Bool) → ((a || b || u) || (c || d || v)) ≡ ((a || b || c || d) || (u || v))
six true b c d u v = refl
six false true c d u v = refl
six false false true d true v = refl
six false false true d false v = refl
six false false false true true v = refl
six false false false true false v = refl
six false false false false true v = refl
six false false false false false v = refl

pub busy_mark : (p q : RankedPair) (used : ℕ → Bool) → busy (mark p used) q ≡ (shares p q || busy used q)
unfolding busy mark shares
busy_mark p q used = six (eqb q.i p.i) (eqb q.i p.j) (eqb q.j p.i) (eqb q.j p.j) (used q.i) (used q.j)

or_true_left : {a : Bool} (b : Bool) → a ≡ true → (a || b) ≡ true
or_true_left b e = rw e

or_true_right : (a : Bool) {b : Bool} → b ≡ true → (a || b) ≡ true
or_true_right true e = refl
or_true_right false e = e

pub or_false_left : (a b : Bool) → (a || b) ≡ false → a ≡ false
or_false_left true b e = e
or_false_left false b e = refl

pub or_false_right : (a b : Bool) → (a || b) ≡ false → b ≡ false
or_false_right true b e = absurd (tf refl e)
or_false_right false b e = e

or_true_cases : (a b : Bool) → (a || b) ≡ true → (a ≡ true) ⊎ (b ≡ true)
or_true_cases true b e = inl refl
or_true_cases false b e = inr e

pub shares_self : (p : RankedPair) → shares p p ≡ true
unfolding shares
shares_self p = rw (eq-eqb p.i p.i refl)

eqb_sym : (a b : ℕ) → eqb a b ≡ eqb b a
eqb_sym a b = go (eqb a b) refl
  where
    go : (t : Bool) → eqb a b ≡ t → t ≡ eqb b a
    go true e = sym (eq-eqb b a (sym (eqb-true a b e)))
    go false e = sym (ne_eqb b a (λ h. eqb-false a b e (sym h)))

four : (a b c d : Bool) → (a || b || c || d) ≡ (a || c || b || d)
four true b c d = refl
four false true true d = refl
four false true false d = refl
four false false true d = refl
four false false false d = refl

pub shares_sym : (p q : RankedPair) → shares p q ≡ shares q p
unfolding shares
shares_sym p q =
    rw (eqb_sym q.i p.i, eqb_sym q.i p.j, eqb_sym q.j p.i, eqb_sym q.j p.j)
    (four (eqb p.i q.i) (eqb p.j q.i) (eqb p.i q.j) (eqb p.j q.j))

-- a pair that is busy stays busy, and one taken is busy
pub busy_more : (p q : RankedPair) (used : ℕ → Bool) → busy used q ≡ true → busy (mark p used) q ≡ true
busy_more p q used e = busy_mark p q used ∙ or_true_right (shares p q) e

pub busy_shared : (p q : RankedPair) (used : ℕ → Bool) → shares p q ≡ true → busy (mark p used) q ≡ true
busy_shared p q used e = busy_mark p q used ∙ or_true_left (busy used q) e

pub free_less : (p q : RankedPair) (used : ℕ → Bool) → busy (mark p used) q ≡ false → (shares p q ≡ false) × (busy used q ≡ false)
free_less p q used e =
    let f : (shares p q || busy used q) ≡ false = sym (busy_mark p q used) ∙ e in
    (or_false_left (shares p q) (busy used q) f, or_false_right (shares p q) (busy used q) f)

pub busy_cases : (p q : RankedPair) (used : ℕ → Bool) → busy (mark p used) q ≡ true → (shares p q ≡ true) ⊎ (busy used q ≡ true)
busy_cases p q used e = or_true_cases (shares p q) (busy used q) (sym (busy_mark p q used) ∙ e)

pub greedy_nil : (used : ℕ → Bool) → greedy used [] ≡ []
unfolding greedy
greedy_nil used = refl

-- what is taken is in the list, and was free
pub in_greedy : (used : ℕ → Bool) (q : RankedPair) (l : List RankedPair) → In q (greedy used l) → In q l × (busy used q ≡ false)
unfolding greedy
in_greedy used q [] h = absurd h
in_greedy used q (x ∷ xs) h = go (busy used x) refl (in_greedy used q xs) (in_greedy (mark x used) q xs) h
  where
    go : (b : Bool) → busy used x ≡ b
        → (In q (greedy used xs) → In q xs × (busy used q ≡ false))
        → (In q (greedy (mark x used) xs) → In q xs × (busy (mark x used) q ≡ false))
        → In q (elim b as (λ _. List RankedPair) [ true ↦ greedy used xs | false ↦ x ∷ greedy (mark x used) xs ]) → In q (x ∷ xs) × (busy used q ≡ false)
    go true e ih₁ ih₂ m = (inr (ih₁ m).0, (ih₁ m).1)
    go false e ih₁ ih₂ (inl m) = (inl m, ap (busy used) m ∙ e)
    go false e ih₁ ih₂ (inr m) = (inr (ih₂ m).0, (free_less x q used (ih₂ m).1).1)

-- no two that are taken share an end
pub greedy_apart : (used : ℕ → Bool) (l : List RankedPair) (p q : RankedPair) → In p (greedy used l) → In q (greedy used l) → shares p q ≡ true → p ≡ q
unfolding greedy
greedy_apart used [] p q hp hq s = absurd hp
greedy_apart used (x ∷ xs) p q hp hq s = go (busy used x) (greedy_apart used xs p q) (greedy_apart (mark x used) xs p q) hp hq
  where
    go : (b : Bool)
        → (In p (greedy used xs) → In q (greedy used xs) → shares p q ≡ true → p ≡ q)
        → (In p (greedy (mark x used) xs) → In q (greedy (mark x used) xs) → shares p q ≡ true → p ≡ q)
        → In p (elim b as (λ _. List RankedPair) [ true ↦ greedy used xs | false ↦ x ∷ greedy (mark x used) xs ])
        → In q (elim b as (λ _. List RankedPair) [ true ↦ greedy used xs | false ↦ x ∷ greedy (mark x used) xs ]) → p ≡ q
    go true ih₁ ih₂ m n = ih₁ m n s
    go false ih₁ ih₂ (inl m) (inl n) = m ∙ sym n
    go false ih₁ ih₂ (inl m) (inr n) =
        absurd (tf (sym (ap (λ (t : RankedPair). shares t q) m) ∙ s) (free_less x q used (in_greedy (mark x used) q xs n).1).0)
    go false ih₁ ih₂ (inr m) (inl n) =
        absurd (tf (sym (ap (λ (t : RankedPair). shares t p) n) ∙ shares_sym q p ∙ s) (free_less x p used (in_greedy (mark x used) p xs m).1).0)
    go false ih₁ ih₂ (inr m) (inr n) = ih₂ m n s

-- what is taken stands in order
pub greedy_order : (used : ℕ → Bool) (l : List RankedPair) → Sorted before l → InOrder before (greedy used l)
unfolding greedy
greedy_order used [] s = tt
greedy_order used (x ∷ xs) s = go (busy used x) (greedy_order used xs s.1) (greedy_order (mark x used) xs s.1)
  where
    first : (q : RankedPair) → In q (greedy (mark x used) xs) → before x q ≡ true
    first q m =
        let h : In q xs × (busy (mark x used) q ≡ false) = in_greedy (mark x used) q xs m in
        apart x q (s.0 q h.0) (λ e. tf (shares_self x) (ap (shares x) e ∙ (free_less x q used h.1).0))

    go : (b : Bool) → InOrder before (greedy used xs) → InOrder before (greedy (mark x used) xs)
        → InOrder before (elim b as (λ _. List RankedPair) [ true ↦ greedy used xs | false ↦ x ∷ greedy (mark x used) xs ])
    go true ih₁ ih₂ = ih₁
    go false ih₁ ih₂ = (first, ih₂)

-- why a pair of the list is not taken: one taken before it shares an end
pub greedy_blocked : (used : ℕ → Bool) (l : List RankedPair) → Sorted before l → (p : RankedPair) → In p l → busy used p ≡ false
    → In p (greedy used l) ⊎ Blocked before shares (greedy used l) p
unfolding greedy
greedy_blocked used [] s p m f = absurd m
greedy_blocked used (x ∷ xs) s p m f = go (busy used x) refl m (λ k. greedy_blocked used xs s.1 p k f) (greedy_blocked (mark x used) xs s.1 p)
  where
    both : In p xs
        → (In p xs → busy (mark x used) p ≡ false → In p (greedy (mark x used) xs) ⊎ Blocked before shares (greedy (mark x used) xs) p)
        → (busy (mark x used) p ≡ true) ⊎ (busy (mark x used) p ≡ false)
        → (shares x p ≡ true) ⊎ (shares x p ≡ false)
        → (before x p ≡ true) ⊎ (before x p ≡ false)
        → In p (x ∷ greedy (mark x used) xs) ⊎ Blocked before shares (x ∷ greedy (mark x used) xs) p
    both k ih c (inl d) (inl e) = inr (x, inl refl, e, d)
    both k ih c (inl d) (inr e) = inl (inl (antisym p x e (s.0 p k)))
    both k ih (inl c) (inr d) e = absurd (⊎_elim (λ (h : shares x p ≡ true). tf h d) (λ (h : busy used p ≡ true). tf h f) (busy_cases x p used c))
    both k ih (inr c) (inr d) e =
        ⊎_elim (λ (h : In p (greedy (mark x used) xs)). inl (inr h))
        (λ (h : Blocked before shares (greedy (mark x used) xs) p). inr (h.0, inr h.1, h.2, h.3))
        (ih k c)

    go : (b : Bool) → busy used x ≡ b → In p (x ∷ xs)
        → (In p xs → In p (greedy used xs) ⊎ Blocked before shares (greedy used xs) p)
        → (In p xs → busy (mark x used) p ≡ false → In p (greedy (mark x used) xs) ⊎ Blocked before shares (greedy (mark x used) xs) p)
        → In p (elim b as (λ _. List RankedPair) [ true ↦ greedy used xs | false ↦ x ∷ greedy (mark x used) xs ])
        ⊎ Blocked before shares (elim b as (λ _. List RankedPair) [ true ↦ greedy used xs | false ↦ x ∷ greedy (mark x used) xs ]) p
    go true e (inl k) ih₁ ih₂ = absurd (tf (ap (busy used) k ∙ e) f)
    go true e (inr k) ih₁ ih₂ = ih₁ k
    go false e (inl k) ih₁ ih₂ = inl (inl k)
    go false e (inr k) ih₁ ih₂ = both k ih₂ (two (busy (mark x used) p)) (two (shares x p)) (two (before x p))

-- the law of the step: a free pair of the list that no free pair of the list is before is taken next
pub step : (used : ℕ → Bool) (l : List RankedPair) → Sorted before l → (p : RankedPair) → Least used l p → greedy used l ≡ p ∷ greedy (mark p used) l
step used [] s p m = absurd m.member
step used (x ∷ xs) s p m =
    go (two (busy used x)) m.member
    (λ k. step used xs s.1 p (record { member = k; free = m.free; first = λ q n. m.first q (inr n) }))
  where
    first : p ≡ x → busy used x ≡ false → greedy used (x ∷ xs) ≡ p ∷ greedy (mark p used) (x ∷ xs)
    first e b =
        greedy_free used x xs b
        ∙ ap (λ (t : List RankedPair). x ∷ t) (sym (greedy_busy (mark x used) x xs (busy_shared x x used (shares_self x))))
        ∙ ap (λ (t : RankedPair). t ∷ greedy (mark t used) (x ∷ xs)) (sym e)

    go : (busy used x ≡ true) ⊎ (busy used x ≡ false) → In p (x ∷ xs) → (In p xs → greedy used xs ≡ p ∷ greedy (mark p used) xs)
        → greedy used (x ∷ xs) ≡ p ∷ greedy (mark p used) (x ∷ xs)
    go (inl b) (inl k) ih = absurd (tf (ap (busy used) k ∙ b) m.free)
    go (inl b) (inr k) ih = greedy_busy used x xs b ∙ ih k ∙ ap (λ (t : List RankedPair). p ∷ t) (sym (greedy_busy (mark p used) x xs (busy_more p x used b)))
    go (inr b) (inl k) ih = first k b
    go (inr b) (inr k) ih = first (antisym p x (m.first x (inl refl) b) (s.0 p k)) b

-- and where no pair of the list is free, none is taken
pub stop : (used : ℕ → Bool) (l : List RankedPair) → ((q : RankedPair) → In q l → busy used q ≡ true) → greedy used l ≡ []
stop used [] h = greedy_nil used
stop used (x ∷ xs) h = greedy_busy used x xs (h x (inl refl)) ∙ stop used xs (λ q m. h q (inr m))
