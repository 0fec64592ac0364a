-- Kept and rising lists: what passes a test, and in which order. A node is such a list, and two rising lists of the same numbers are one.
use Prim.Native.Nat.{ℕ, zero, suc, ◌≤◌, ◌<◌, zero-le}
use mathlib.Core.Path.{◌≡◌, refl, sym, ap, ap₂, ◌∙◌}
use mathlib.Core.Bool.{Bool, true, false}
use mathlib.Core.List.{List, [], ◌∷◌}
use native.Mathlib.Omega.{arith}
use native.Mathlib.Decide.{ℕ_discrete}
use lib.Dec.{ltb, eqb}
use borrow.Author.Tests.{ltb-true, ltb-false}
use Rattle.rules.specs.Lists.{one, count, keep, from, upto}
use Rattle.chain_laws.proofs.Counts.{one_same, one_other}

-- ---- what passes a test

pub keep_yes : {A : Type 0} (t : A → Bool) (a : A) (l : List A) → t a ≡ true → keep t (a ∷ l) ≡ a ∷ keep t l
unfolding keep
keep_yes t a l h = rw (h, keep)

pub keep_no : {A : Type 0} (t : A → Bool) (a : A) (l : List A) → t a ≡ false → keep t (a ∷ l) ≡ keep t l
unfolding keep
keep_no t a l h = rw (h, keep)

keep_go : (t : ℕ → Bool) (x a : ℕ) (l : List ℕ) (b : Bool) → t a ≡ b
    → (0 < count x (keep t l) → (t x ≡ true) × (0 < count x l))
    → 0 < count x (keep t (a ∷ l)) → (t x ≡ true) × (0 < count x (a ∷ l))
unfolding count
keep_go t x a l true q ih h =
    let k : 0 < count x (a ∷ keep t l) = rw (keep_yes t a l q) at h in
    elim (ℕ_discrete x a) [
      | yes e ↦ (ap t e ∙ q, omega (arith, one_same x a e))
      | no e ↦ (let r = ih (omega (arith, one_other x a e)) in (r.0, omega (arith, r.1)))
    ]
keep_go t x a l false q ih h = let r = ih (rw (keep_no t a l q) at h) in (r.0, omega (arith, r.1))

pub keep_in : (t : ℕ → Bool) (x : ℕ) (l : List ℕ) → 0 < count x (keep t l) → (t x ≡ true) × (0 < count x l)
unfolding count keep
keep_in t x [] h = absurd (omega arith)
keep_in t x (a ∷ l) h = keep_go t x a l (t a) refl (keep_in t x l) h

pub keep_all : (t : ℕ → Bool) (x : ℕ) (l : List ℕ) → t x ≡ true → count x l ≤ count x (keep t l)
unfolding count keep
keep_all t x [] h = zero-le
keep_all t x (a ∷ l) h = go (t a) refl (keep_all t x l h)
  where
    go : (s : Bool) → t a ≡ s → count x l ≤ count x (keep t l) → count x (a ∷ l) ≤ count x (keep t (a ∷ l))
    go true e i = rw (keep_yes t a l e) (omega arith)
    go false e i =
        rw (keep_no t a l e) (omega (arith, one_other x a (λ q. let z : ◌≡◌ {A = ℕ} 0 1 = cc in omega arith)))

-- ---- rising lists

-- each number is above the one before, and the first is at least b
pub data Up : ℕ → List ℕ → Type 0 where
  stop : {b : ℕ} → Up b []
  then : {b a : ℕ} {l : List ℕ} → b ≤ a → Up (suc a) l → Up b (a ∷ l)

pub up_weak : (b c : ℕ) (l : List ℕ) → c ≤ b → Up b l → Up c l
up_weak b c l h stop = stop
up_weak b c l h (then {a = a} i u) = let g : c ≤ a = omega arith in then g u

pub up_from : (k n : ℕ) → Up k (from k n)
unfolding from
up_from k zero = stop
up_from k (suc n) = let g : k ≤ k = omega arith in then g (up_from (suc k) n)

pub up_upto : (n : ℕ) → Up 0 (upto n)
unfolding upto
up_upto n = up_from 0 n

pub up_keep : (t : ℕ → Bool) (b : ℕ) (l : List ℕ) → Up b l → Up b (keep t l)
unfolding keep
up_keep t b l stop = stop
up_keep t b l (then {a = a} {l = m} h u) = go (t a) refl (up_keep t (suc a) m u)
  where
    go : (s : Bool) → t a ≡ s → Up (suc a) (keep t m) → Up b (keep t (a ∷ m))
    go true e v = rw (e, keep) (then h v)
    go false e v = rw (e, keep) (up_weak (suc a) b (keep t m) (omega arith) v)

up_out : (b : ℕ) (l : List ℕ) (x : ℕ) → Up b l → x < b → count x l ≡ 0
unfolding count
up_out b l x stop h = refl
up_out b l x (then {a = a} {l = m} i u) h = omega (arith, one_other x a (λ q. omega arith), up_out (suc a) m x u (omega arith))

pub up_once : (b : ℕ) (l : List ℕ) (x : ℕ) → Up b l → count x l ≤ 1
unfolding count
up_once b l x stop = zero-le
up_once b l x (then {a = a} {l = m} i u) =
    elim (ℕ_discrete x a) [
      | yes q ↦ omega (arith, one_same x a q, up_out (suc a) m x u (omega arith))
      | no q ↦ omega (arith, one_other x a q, up_once (suc a) m x u)
    ]

-- two rising lists of the same numbers are one
pub up_unique : (b c : ℕ) (l m : List ℕ) → Up b l → Up c m → ((x : ℕ) → count x l ≡ count x m) → l ≡ m
unfolding count
up_unique b c l m stop stop h = refl
up_unique b c l m stop (then {a = a} i u) h = absurd (omega (arith, h a, one_same a a refl))
up_unique b c l m (then {a = a} i u) stop h = absurd (omega (arith, h a, one_same a a refl))
up_unique b c l m (then {a = a} {l = l'} i u) (then {a = d} {l = m'} j v) h =
    ap₂ {C = List ℕ} (λ x r. x ∷ r) same
    (up_unique (suc a) (suc d) l' m' u v (λ x. omega (arith, h x, ap (λ (y : ℕ). one (eqb x y)) same)))
  where
    go : (t : Dec (a ≡ d)) → (s : Bool) → ltb a d ≡ s → a ≡ d
    go (yes q) s e = q
    go (no q) true e =
        absurd (omega (arith, h a, one_same a a refl, one_other a d q, up_out (suc d) m' a v (omega (arith, ltb-true a d e))))
    go (no q) false e =
        absurd (omega (arith, h d, one_same d d refl, one_other d a (λ r. q (sym r)), up_out (suc a) l' d u (omega (arith, ltb-false a d e))))

    same : a ≡ d
    same = go (ℕ_discrete a d) (ltb a d) refl
