-- The whole part of a double in the range of an `i64` is a double, so the way back to floats is exact, and comparing with it compares whole numbers.
use Rattle.std.proofs.Common.{◌≡◌, ℕ, zero, suc, ◌+◌, ◌*◌, ◌/◌, ◌%◌, ◌^◌, ◌<◌, ◌≤◌, Bool, true, false, ◌&&◌, T, eqb, ltb, leb, ℤ, pos, negsuc, neg_ℤ, sym, refl, ap, ◌∙◌, subst, lt_of_le_of_lt, mul-le-mul_right, mul_assoc, mul-lt-mul_of_pos_right, zero-mul, mul-one, div-le_self, mul_right_comm, div-one, arith, lit<, ltb→lt, pow-add, ltb-false, ltb-true, le-ltb, lt-ltb}
use lib.Ieee.{Float, nan, inf, fin, binary64, up, down, round, fits, lt, of_int}
use lib.Ieee.Fits.{and_l, and_r, down_pos}
use lib.Ieee.Exact.{HasValue, round_exact}

clash : true ≡ false → ⊥
clash e = subst T e tt

-- a significand is short
pub short : (s : Bool) (m : ℕ) (e : ℤ) → T (fits binary64 (fin s m e)) → m < 2 ^ 53
unfolding fits
short s zero e h = lit< tt
short s (suc m) e h =
    let A = eqb (suc m % 2) 1 in
    let B = ltb (suc m) (2 ^ 53) in
    let C = leb (down e) (2 ^ 1074) in
    let D = ltb (suc m * up e) (2 ^ 1024 * down e) in
    ltb→lt (suc m) (2 ^ 53) (and_r A B (and_l (A && B) C (and_l (A && B && C) D h)))

-- ---- a whole number of the range that is a short one with zeros behind it
exact_by : (s : Bool) (q m j : ℕ) → m < 2 ^ 53 → q ≤ 2 ^ 63 → q ≡ m * 2 ^ j → HasValue (round binary64 s q 1) s q 1
exact_by s q m j h r e =
    let same : q * 2 ^ 1074 ≡ m * 2 ^ (j + 1074) =
    ap (λ (x : ℕ). x * 2 ^ 1074) e ∙ mul_assoc m (2 ^ j) (2 ^ 1074) ∙ ap (λ (x : ℕ). m * x) (sym (pow-add 2 j 1074)) in
    round_exact binary64 s q 1 m (j + 1074) (lit< tt) h
    (subst (λ (x : ℕ). x < 2 ^ 2098) same (lt_of_le_of_lt (mul-le-mul_right (2 ^ 1074) r) (lit< tt)))
    (same ∙ sym (mul-one (m * 2 ^ (j + 1074))))

pub exact : (s : Bool) (m : ℕ) (e : ℤ) → m < 2 ^ 53 → m * up e / down e ≤ 2 ^ 63
    → HasValue (round binary64 s (m * up e / down e) 1) s (m * up e / down e) 1
exact s m (pos a) h r = exact_by s (m * 2 ^ a / 1) m a h r (div-one (m * 2 ^ a))
exact s m (negsuc a) h r =
    exact_by s (m * 1 / 2 ^ suc a) (m * 1 / 2 ^ suc a) 0 (lt_of_le_of_lt (div-le_self (m * 1) (2 ^ suc a)) (subst (λ (x : ℕ). x < 2 ^ 53) (sym (mul-one m)) h)) r (sym (mul-one (m * 1 / 2 ^ suc a)))

-- ---- comparing with it
times : (a b x y d : ℕ) → 0 < d → x ≡ a * d → y ≡ b * d → ltb x y ≡ ltb a b
times a b x y d o p q = go (ltb a b) refl
  where
    go : (t : Bool) → ltb a b ≡ t → ltb x y ≡ t
    go true h = let l : a * d < b * d = mul-lt-mul_of_pos_right (ltb-true a b h) o in lt-ltb x y (omega arith)
    go false h = let l : b * d ≤ a * d = mul-le-mul_right d (ltb-false a b h) in le-ltb x y (omega arith)

-- y is q, as a fraction with the divisor d
crossed : (y q d e : ℕ) → y * 1 ≡ q * d → y * e ≡ q * e * d
crossed y q d e h = ap (λ (x : ℕ). x * e) (sym (mul-one y) ∙ h) ∙ mul_right_comm q d e

pub lt_above : (m : ℕ) (e : ℤ) (v : Float) (q : ℕ) → HasValue v false q 1 → lt (fin false m e) v ≡ ltb (m * up e) (q * down e)
unfolding lt
lt_above m e nan q h = absurd h
lt_above m e (inf t) q h = absurd h
lt_above m e (fin false n d) q h =
    times (m * up e) (q * down e) (m * up e * down d) (n * up d * down e) (down d) (down_pos d) refl (crossed (n * up d) q (down d) (down e) h.1)
lt_above m e (fin true n d) q h = absurd (clash h.0)

pub lt_under : (m : ℕ) (e : ℤ) (v : Float) (q : ℕ) → HasValue v true q 1 → lt (fin true m e) v ≡ ltb (q * down e) (m * up e)
unfolding lt
lt_under m e nan q h = absurd h
lt_under m e (inf t) q h = absurd h
lt_under m e (fin true n d) q h =
    times (q * down e) (m * up e) (n * up d * down e) (m * up e * down d) (down d) (down_pos d) (crossed (n * up d) q (down d) (down e) h.1) refl
lt_under m e (fin false n d) q h = absurd (clash (sym h.0))

-- where q is 0, it comes back as +0
lt_zero : (m : ℕ) (e : ℤ) (v : Float) → HasValue v false 0 1 → lt (fin true m e) v ≡ ltb (0 * down e) (m * up e)
unfolding lt
lt_zero m e nan h = absurd h
lt_zero m e (inf t) h = absurd h
lt_zero m e (fin true n d) h = absurd (clash h.0)
lt_zero m e (fin false n d) h =
    let none : n * up d * down e ≡ 0 = crossed (n * up d) 0 (down d) (down e) h.1 ∙ ap (λ (x : ℕ). x * down d) (zero-mul (down e)) ∙ zero-mul (down d) in
    ap (λ (x : ℕ). ltb 0 (m * up e * down d + x)) none
    ∙ times (0 * down e) (m * up e) 0 (m * up e * down d + 0) (down d) (down_pos d) (sym (zero-mul (down d)) ∙ ap (λ (x : ℕ). x * down d) (sym (zero-mul (down e)))) (plain (m * up e * down d))
  where
    plain : (x : ℕ) → x + 0 ≡ x
    plain x = omega arith

-- below zero: the way back of a whole part q
pub lt_neg : (m : ℕ) (e : ℤ) (q : ℕ) → ((s : Bool) → HasValue (round binary64 s q 1) s q 1)
    → lt (fin true m e) (of_int binary64 (neg_ℤ (pos q))) ≡ ltb (q * down e) (m * up e)
unfolding of_int
lt_neg m e zero h = lt_zero m e (round binary64 false 0 1) (h false)
lt_neg m e (suc q) h = lt_under m e (round binary64 true (suc q) 1) (suc q) (h true)
