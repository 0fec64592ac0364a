-- A double is told by its value: two that have one sign and one size are one, since their bits are worked out from these alone. So a number that a
-- double holds is rounded to that double.
use Prim.Native.Nat.{ℕ, suc, ◌+◌, ◌-◌, ◌*◌, ◌/◌, ◌%◌, ◌^◌, ◌≤◌, ◌<◌}
use mathlib.Core.Path.{◌≡◌, refl, sym, ap, ap₂, ◌∙◌, subst}
use mathlib.Core.Bool.{Bool, ◌&&◌, cond}
use native.Mathlib.Omega.{arith}
use native.Mathlib.Nat.{lt_of_lt_of_le, lt_of_not-le, not-le_of_lt, mul_assoc, mul_right_comm, mul-one, eq_of_mul-eq-mul_right}
use lib.Dec.{T, eqb, ltb, leb, ltb→lt, leb→le}
use lib.IntN.{ℤ, pos, negsuc}
use lib.Pow.{pow-add, pow_pos, pow-lt, pow_mono, shl_lt}
use lib.Ieee.{Float, nan, inf, fin, binary64, up, down, size, round, fits, of_bits, to_bits}
use lib.Ieee.Bits.{of_bits-to_bits}
use lib.Ieee.Exact.{HasValue, round_exact}
use lib.Ieee.Fits.{down_pos, and_l, and_r, round-fits}
use lib.Ieee.Nearest.{div_same}

-- sizes a / d and b / g that are both c / k
crossed : (a b c d g k : ℕ) → 0 < k → a * k ≡ c * d → b * k ≡ c * g → a * g ≡ b * d
crossed a b c d g k h p q =
    eq_of_mul-eq-mul_right k h (a * g) (b * d)
    (mul_right_comm a g k ∙ ap (λ (z : ℕ). z * g) p ∙ mul_right_comm c d g ∙ ap (λ (z : ℕ). z * d) (sym q) ∙ mul_right_comm b k d)

bits_same : (s t : Bool) (m n : ℕ) (e g : ℤ) → s ≡ t → m * up e * down g ≡ n * up g * down e → to_bits binary64 (fin s m e) ≡ to_bits binary64 (fin t n g)
unfolding to_bits
bits_same s t m n e g p q =
    let same : m * up e * 2 ^ 1074 / down e ≡ n * up g * 2 ^ 1074 / down g =
    div_same (m * up e * 2 ^ 1074) (down e) (n * up g * 2 ^ 1074) (down g) (down_pos e) (down_pos g)
    (mul_right_comm (m * up e) (2 ^ 1074) (down g) ∙ ap (λ (z : ℕ). z * 2 ^ 1074) q ∙ mul_right_comm (n * up g) (down e) (2 ^ 1074)) in
    ap₂ (λ (b : Bool) (k : ℕ). cond b 9223372036854775808 0 + (size k - 53) * 4503599627370496 + k / 2 ^ (size k - 53)) p same

pub value_only : (x y : Float) (s : Bool) (a c : ℕ) → 0 < c → T (fits binary64 x) → T (fits binary64 y) → HasValue x s a c → HasValue y s a c → x ≡ y
value_only nan y s a c h p q v w = absurd v
value_only (inf t) y s a c h p q v w = absurd v
value_only (fin t m e) nan s a c h p q v w = absurd w
value_only (fin t m e) (inf u) s a c h p q v w = absurd w
value_only (fin t m e) (fin u n g) s a c h p q v w =
    sym (of_bits-to_bits binary64 (fin t m e) p)
    ∙ ap (of_bits binary64) (bits_same t u m n e g (v.0 ∙ sym w.0) (crossed (m * up e) (n * up g) a (down e) (down g) c h v.1 w.1))
    ∙ of_bits-to_bits binary64 (fin u n g) q

-- ---- rounding what a double holds

-- a value m * 2 ^ k, and one m / 2 ^ suc k
exact_up : (s : Bool) (m k : ℕ) → m < 2 ^ 53 → m * 2 ^ k < 2 ^ 1024 → HasValue (round binary64 s (m * 2 ^ k) 1) s (m * 2 ^ k) 1
exact_up s m k small fine =
    let shift : m * 2 ^ k * 2 ^ 1074 ≡ m * 2 ^ (k + 1074) = mul_assoc m (2 ^ k) (2 ^ 1074) ∙ ap (λ (z : ℕ). m * z) (sym (pow-add 2 k 1074)) in
    round_exact binary64 s (m * 2 ^ k) 1 m (k + 1074) (omega arith) small (subst (λ (z : ℕ). z < 2 ^ 2098) shift (shl_lt 1024 1074 fine)) (shift ∙ sym (mul-one (m * 2 ^ (k + 1074))))

exact_down : (s : Bool) (m k : ℕ) → m < 2 ^ 53 → suc k ≤ 1074 → HasValue (round binary64 s (m * 1) (2 ^ suc k)) s (m * 1) (2 ^ suc k)
exact_down s m k small deep =
    let j = 1074 - suc k in
    let all : j + suc k ≡ 1074 = omega arith in
    let under : m * 2 ^ j < 2 ^ 2098 = lt_of_lt_of_le (shl_lt 53 j small) (pow_mono {i = 53 + j} {j = 2098} (omega arith)) in
    round_exact binary64 s (m * 1) (2 ^ suc k) m j (pow_pos (suc k)) small under
    (ap (λ (z : ℕ). z * 2 ^ 1074) (mul-one m)
    ∙ ap (λ (z : ℕ). m * 2 ^ z) (sym all)
    ∙ ap (λ (z : ℕ). m * z) (pow-add 2 j (suc k))
    ∙ sym (mul_assoc m (2 ^ j) (2 ^ suc k)))

deep_of : (k : ℕ) → 2 ^ suc k ≤ 2 ^ 1074 → suc k ≤ 1074
deep_of k h = lt_of_not-le (λ (g : 1074 ≤ k). not-le_of_lt (pow-lt (further g)) h)
  where
    further : 1074 ≤ k → 1074 < suc k
    further g = omega arith

exact_of : (s : Bool) (m : ℕ) (e : ℤ) → m < 2 ^ 53 → down e ≤ 2 ^ 1074 → m * up e < 2 ^ 1024 * down e
    → HasValue (round binary64 s (m * up e) (down e)) s (m * up e) (down e)
exact_of s m (pos k) small deep fine = exact_up s m k small (subst (λ (z : ℕ). m * 2 ^ k < z) (mul-one (2 ^ 1024)) fine)
exact_of s m (negsuc k) small deep fine = exact_down s m k small (deep_of k deep)

-- a number above zero that a double holds is rounded to it
pub round_back : (s : Bool) (m : ℕ) (e : ℤ) → T (fits binary64 (fin s (suc m) e)) → round binary64 s (suc m * up e) (down e) ≡ fin s (suc m) e
unfolding fits
round_back s m e h =
    let A = eqb (suc m % 2) 1 in
    let B = ltb (suc m) (2 ^ 53) in
    let C = leb (down e) (2 ^ 1074) in
    let D = ltb (suc m * up e) (2 ^ 1024 * down e) in
    let small = ltb→lt (suc m) (2 ^ 53) (and_r A B (and_l (A && B) C (and_l (A && B && C) D h))) in
    let deep = leb→le (down e) (2 ^ 1074) (and_r (A && B) C (and_l (A && B && C) D h)) in
    let fine = ltb→lt (suc m * up e) (2 ^ 1024 * down e) (and_r (A && B && C) D h) in
    value_only (round binary64 s (suc m * up e) (down e)) (fin s (suc m) e) s (suc m * up e) (down e) (down_pos e)
    (round-fits binary64 s (suc m * up e) (down e)) h (exact_of s (suc m) e small deep fine) (refl, refl)
