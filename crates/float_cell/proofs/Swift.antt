-- Adding 3 * 2 ^ 51 and taking it off again leaves a whole number next to x, for an x between -(2 ^ 51) and 2 ^ 51: the sum has 53 digits before
-- the point, so rounding leaves none behind it, and the difference is exact.
use Rattle.std.proofs.Common.{◌≡◌, ℕ, suc, ◌+◌, ◌-◌, ◌*◌, ◌/◌, ◌%◌, ◌^◌, ◌<◌, ◌≤◌, Bool, true, false, cond, ltb, pos, sym, ap, ◌∙◌, subst, true≢false, le_trans, le_of_eq, lt_of_lt_of_le, lt_of_le_of_lt, lt_irrefl, mul-le-mul_right, mul_assoc, div-lt_iff_lt-mul, add-mul, mul-lt-mul_of_pos_right, mul-pos, lt_of_not-le, le-div_iff_mul-le, mul-one, mul_right_comm, arith, lit<, pow_pos, pow_mono, le-ltb, lt-ltb}
use Prim.Native.Nat.{compare}
use native.Mathlib.Nat.{eq_of_mul-eq-mul_right}
use lib.Ieee.{Float, nan, inf, fin, binary64, up, down, size, units, round, add, sub, sum, neg, of_int}
use lib.Ieee.Digits.{size-lt, size-le}
use lib.Ieee.Fits.{down_pos, round_is, core, nearest-le}
use lib.Ieee.Exact.{HasValue, units_val}
use lib.Ieee.Nearest.{closest, closest_same}
use lib.Ieee.Scale.{round_same}

-- ---- a fraction of 53 digits before the point rounds to a whole number
exactly : (z : ℕ) → 1126 < z → z ≤ 1127 → z - 53 ≡ 1074
exactly z a b = omega arith

scaled_le : (c p e a : ℕ) → c * e ≤ a → c * p * e ≤ a * p
scaled_le c p e a h = le_trans (le_of_eq (mul_right_comm c p e)) (mul-le-mul_right p h)

scaled_lt : (c p e a : ℕ) → 0 < p → a < c * e → a * p < c * p * e
scaled_lt c p e a o h = lt_of_lt_of_le (mul-lt-mul_of_pos_right h o) (le_of_eq (mul_right_comm c e p))

size_above : (a n : ℕ) → 2 ^ a ≤ n → a < size n
size_above a n h = lt_of_not-le (λ (g : size n ≤ a). lt_irrefl n (lt_of_lt_of_le (size-lt n) (le_trans (pow_mono g) h)))

unscaled : (x : Float) (s : Bool) (q p : ℕ) → 0 < p → HasValue x s (q * p) p → HasValue x s q 1
unscaled nan s q p o h = h
unscaled (inf t) s q p o h = h
unscaled (fin t m e) s q p o h = (h.0, mul-one (m * up e) ∙ eq_of_mul-eq-mul_right p o (m * up e) (q * down e) (h.1 ∙ mul_right_comm q p (down e)))

pub whole : (a e : ℕ) → 0 < e → 2 ^ 52 * e ≤ a → a < 2 ^ 53 * e → HasValue (round binary64 false a e) false (closest a e) 1
whole a e o lo hi =
    let n = a * 2 ^ 1074 in
    let q = closest a e in
    let k : size (n / e) - 53 ≡ 1074 =
    exactly (size (n / e)) (size_above 1126 (n / e) ((le-div_iff_mul-le o).1 (scaled_le (2 ^ 52) (2 ^ 1074) e a lo))) (size-le (n / e) 1127 ((div-lt_iff_lt-mul o).1 (scaled_lt (2 ^ 53) (2 ^ 1074) e a (pow_pos 1074) hi))) in
    let same : closest n (e * 2 ^ 1074) ≡ q = closest_same n (e * 2 ^ 1074) a e (mul-pos o (pow_pos 1074)) o (mul_right_comm a (2 ^ 1074) e ∙ mul_assoc a e (2 ^ 1074)) in
    let is : round binary64 false a e ≡ units binary64 false q 1074 =
    round_is binary64 false a e ∙ ap (λ (z : ℕ). core binary64 false n e z) k ∙ ap (λ (z : ℕ). units binary64 false z 1074) same in
    let small : q ≤ (2 ^ 53) = top q (a / e) (nearest-le (a / e) (compare (a % e * 2) e)) ((div-lt_iff_lt-mul o).1 hi) in
    unscaled (round binary64 false a e) false q (2 ^ 1074) (pow_pos 1074)
    (subst (λ (v : Float). HasValue v false (q * 2 ^ 1074) (2 ^ 1074)) (sym is) (units_val binary64 false q 1074 (lt_of_le_of_lt (mul-le-mul_right (2 ^ 1074) small) (lit< tt))))
  where
    top : (q w : ℕ) → q ≤ suc w → w < 2 ^ 53 → q ≤ 2 ^ 53
    top q w h k = omega arith

-- ---- 3 * 2 ^ 51 taken off a whole number
abbrev pub M : Float
M = fin false 3 (pos 51)

take_up : (a q d : ℕ) → 0 < d → a ≡ q * d → (3 * 2 ^ 51) ≤ q → (X : Float)
    → cond (ltb a ((3 * 2 ^ 51) * d)) X (round binary64 false (a - (3 * 2 ^ 51) * d) (d * 1)) ≡ round binary64 false (q - (3 * 2 ^ 51)) 1
take_up a q d o e h X =
    let p = q - (3 * 2 ^ 51) in
    let j : p + (3 * 2 ^ 51) ≡ q = omega arith in
    let s : q * d ≡ p * d + (3 * 2 ^ 51) * d = ap (λ (z : ℕ). z * d) (sym j) ∙ add-mul p (3 * 2 ^ 51) d in
    let r : a - (3 * 2 ^ 51) * d ≡ p * d = omega arith in
    ap (λ (b : Bool). cond b X (round binary64 false (a - (3 * 2 ^ 51) * d) (d * 1))) (le-ltb a ((3 * 2 ^ 51) * d) (omega arith))
    ∙ round_same binary64 false (a - (3 * 2 ^ 51) * d) (d * 1) p 1 (subst (λ (z : ℕ). 0 < z) (sym (mul-one d)) o) (lit< tt) (mul-one (a - (3 * 2 ^ 51) * d) ∙ r ∙ ap (λ (z : ℕ). p * z) (sym (mul-one d)))

take_down : (a q d : ℕ) → 0 < d → a ≡ q * d → q < (3 * 2 ^ 51) → (X : Float)
    → cond (ltb a ((3 * 2 ^ 51) * d)) (round binary64 true ((3 * 2 ^ 51) * d - a) (d * 1)) X ≡ round binary64 true ((3 * 2 ^ 51) - q) 1
take_down a q d o e h X =
    let p = (3 * 2 ^ 51) - q in
    let j : p + q ≡ (3 * 2 ^ 51) = omega arith in
    let s : (3 * 2 ^ 51) * d ≡ p * d + q * d = ap (λ (z : ℕ). z * d) (sym j) ∙ add-mul p q d in
    let r : (3 * 2 ^ 51) * d - a ≡ p * d = omega arith in
    ap (λ (b : Bool). cond b (round binary64 true ((3 * 2 ^ 51) * d - a) (d * 1)) X) (lt-ltb a ((3 * 2 ^ 51) * d) (subst (λ (z : ℕ). z < (3 * 2 ^ 51) * d) (sym e) (mul-lt-mul_of_pos_right h o)))
    ∙ round_same binary64 true ((3 * 2 ^ 51) * d - a) (d * 1) p 1 (subst (λ (z : ℕ). 0 < z) (sym (mul-one d)) o) (lit< tt) (mul-one ((3 * 2 ^ 51) * d - a) ∙ r ∙ ap (λ (z : ℕ). p * z) (sym (mul-one d)))

pub off_up : (r : Float) (q : ℕ) → HasValue r false q 1 → (3 * 2 ^ 51) ≤ q → sub binary64 r M ≡ of_int binary64 (pos (q - (3 * 2 ^ 51)))
unfolding sub add neg sum of_int
off_up nan q v h = absurd v
off_up (inf s) q v h = absurd v
off_up (fin true n d) q v h = absurd (true≢false v.0)
off_up (fin false n d) q v h =
    take_up (n * up d * 1) q (down d) (down_pos d) v.1 h (round binary64 true ((3 * 2 ^ 51) * down d - n * up d * 1) (down d * 1))

pub off_down : (r : Float) (q : ℕ) → HasValue r false q 1 → q < (3 * 2 ^ 51) → sub binary64 r M ≡ round binary64 true ((3 * 2 ^ 51) - q) 1
unfolding sub add neg sum
off_down nan q v h = absurd v
off_down (inf s) q v h = absurd v
off_down (fin true n d) q v h = absurd (true≢false v.0)
off_down (fin false n d) q v h =
    take_down (n * up d * 1) q (down d) (down_pos d) v.1 h (round binary64 false (n * up d * 1 - (3 * 2 ^ 51) * down d) (down d * 1))
