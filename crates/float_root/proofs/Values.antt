-- `root` at each kind of pattern: read by its fields, a pattern is a count of smallest values, or a zero, an infinity or a NaN.
use mathlib.Core.Path.{◌≡◌, refl, sym, ap, ◌∙◌, subst}
use mathlib.Core.Bool.{Bool, true, false, cond}
use Prim.Native.Nat.{ℕ, zero, suc, ◌+◌, ◌*◌, ◌/◌, ◌%◌, ◌^◌, ◌≤◌, ◌<◌}
use native.Mathlib.Nat.{zero-mul, mul-pos, mul_assoc, mul_right_comm, mul-div_cancel, mod-eq_of_lt, lt_irrefl}
use native.Mathlib.Omega.{arith}
use borrow.Author.Tests.{ne_eqb, lt-leb, le-leb, lt-ltb, leb-true, leb-false}
use lib.Dec.{T, leb, eqb}
use lib.Pow.{pow-add, pow_pos}
use lib.IntN.{ℤ}
use lib.Ieee.{Float, nan, inf, fin, binary64, up, down, odd, of_fields, of_bits, is_nan, neg}
use lib.Ieee.Fits.{down_pos}
use lib.Ieee.Exact.{HasValue, odd_sign}
use lib.Ieee.Bits.{nan_bits_is, nan_bits_above}
use Rattle.rules.specs.Root.{root_units, root}

-- ---- a finite value that is not zero, of a smallest values
magnitude : (m : ℕ) (e : ℤ) (a : ℕ) → m * up e * 2 ^ 1074 ≡ a * down e → 0 < a → m ≡ 0 → ⊥
magnitude m e a v o z =
    lt_irrefl 0 (subst (λ (x : ℕ). 0 < x) (sym v ∙ ap (λ (x : ℕ). x * up e * 2 ^ 1074) z ∙ ap (λ (x : ℕ). x * 2 ^ 1074) (zero-mul (up e)) ∙ zero-mul (2 ^ 1074)) (mul-pos o (down_pos e)))

squares : (m : ℕ) (e : ℤ) (a : ℕ) → m * up e * 2 ^ 1074 ≡ a * down e → m * up e * 4 ^ 1074 / down e ≡ a * 2 ^ 1074
squares m e a v =
    ap (λ (x : ℕ). x / down e) (sym (mul_assoc (m * up e) (2 ^ 1074) (2 ^ 1074)) ∙ ap (λ (x : ℕ). x * 2 ^ 1074) v ∙ mul_right_comm a (down e) (2 ^ 1074))
    ∙ mul-div_cancel (a * 2 ^ 1074) (down_pos e)

pub root_above : (v : Float) (a : ℕ) → HasValue v false a (2 ^ 1074) → 0 < a → root binary64 v ≡ root_units binary64 (a * 2 ^ 1074)
unfolding root
root_above nan a h o = absurd h
root_above (inf s) a h o = absurd h
root_above (fin s m e) a h o =
    ap (λ (t : Bool). cond t (fin s m e) (cond s nan (root_units binary64 (m * up e * 4 ^ 1074 / down e)))) (ne_eqb m 0 (magnitude m e a h.1 o))
    ∙ ap (λ (t : Bool). cond t nan (root_units binary64 (m * up e * 4 ^ 1074 / down e))) h.0
    ∙ ap (root_units binary64) (squares m e a h.1)

root_below : (v : Float) (a : ℕ) → HasValue v true a (2 ^ 1074) → 0 < a → root binary64 v ≡ nan
unfolding root
root_below nan a h o = absurd h
root_below (inf s) a h o = absurd h
root_below (fin s m e) a h o =
    ap (λ (t : Bool). cond t (fin s m e) (cond s nan (root_units binary64 (m * up e * 4 ^ 1074 / down e)))) (ne_eqb m 0 (magnitude m e a h.1 o))
    ∙ ap (λ (t : Bool). cond t nan (root_units binary64 (m * up e * 4 ^ 1074 / down e))) h.0

root_odd : (m x : ℕ) → 0 < m → root binary64 (odd 53 false m x 1074) ≡ root_units binary64 (m * 2 ^ (x + 1074))
root_odd m x o =
    root_above (odd 53 false m x 1074) (m * 2 ^ x) (odd_sign 53 false m x 1074) (mul-pos o (pow_pos x))
    ∙ ap (root_units binary64) (mul_assoc m (2 ^ x) (2 ^ 1074) ∙ ap (λ (y : ℕ). m * y) (sym (pow-add 2 x 1074)))

-- ---- a pattern without its sign's bit
fields : (n : ℕ) → n < 2 ^ 63 → of_bits binary64 n ≡ of_fields binary64 false (n / 2 ^ 52) (n % 2 ^ 52)
unfolding of_bits
fields n h =
    ap (λ (s : Bool). of_fields binary64 s (n % 2 ^ 63 / 2 ^ 52) (n % 2 ^ 52)) (lt-leb (2 ^ 63) n h)
    ∙ ap (λ (x : ℕ). of_fields binary64 false (x / 2 ^ 52) (n % 2 ^ 52)) (mod-eq_of_lt h)

signed : (n : ℕ) → 2 ^ 63 ≤ n
    → of_bits binary64 n ≡ of_fields binary64 true (n % 2 ^ 63 / 2 ^ 52) (n % 2 ^ 52)
unfolding of_bits
signed n h =
    ap (λ (s : Bool). of_fields binary64 s (n % 2 ^ 63 / 2 ^ 52) (n % 2 ^ 52)) (le-leb (2 ^ 63) n h)

pub root_low : (n : ℕ) → 0 < n → n < 0x7ff0_0000_0000_0000 → n / 2 ^ 52 ≡ 0
    → root binary64 (of_bits binary64 n) ≡ root_units binary64 (n % 2 ^ 52 * 2 ^ 1074)
unfolding of_fields
root_low n o h z =
    ap (root binary64) (fields n (omega arith) ∙ ap (λ (x : ℕ). of_fields binary64 false x (n % 2 ^ 52)) z)
    ∙ root_odd (n % 2 ^ 52) 0 (omega arith)

pub root_high : (n : ℕ) → n < 0x7ff0_0000_0000_0000 → (n / 2 ^ 52 ≡ 0 → ⊥)
    → root binary64 (of_bits binary64 n) ≡ root_units binary64 ((n % 2 ^ 52 + 2 ^ 52) * 2 ^ (n / 2 ^ 52 + 1073))
unfolding of_fields
root_high n h z = ap (root binary64) (fields n (omega arith)) ∙ go (n / 2 ^ 52) (n % 2 ^ 52) z (omega arith)
  where
    arranged : (x t : ℕ) → (2 ^ 52 + t) * 2 ^ (x + 1074) ≡ (t + 2 ^ 52) * 2 ^ (suc x + 1073)
    arranged x t =
        let e : x + 1074 ≡ suc x + 1073 = omega arith in
        let f : (2 ^ 52) + t ≡ t + (2 ^ 52) = omega arith in
        ap (λ (y : ℕ). (2 ^ 52 + t) * 2 ^ y) e ∙ ap (λ (y : ℕ). y * 2 ^ (suc x + 1073)) f

    go : (x t : ℕ) → (x ≡ 0 → ⊥) → x < 2047
        → root binary64 (of_fields binary64 false x t) ≡ root_units binary64 ((t + 2 ^ 52) * 2 ^ (x + 1073))
    go zero t z l = absurd (z refl)
    go (suc x) t z l =
        ap (λ (b : Bool). root binary64 (cond b (cond (eqb t 0) (inf false) nan) (odd 53 false (2 ^ 52 + t) x 1074))) (ne_eqb (suc x) 2047 (λ e. omega arith))
        ∙ root_odd (2 ^ 52 + t) x (omega arith)
        ∙ ap (root_units binary64) (arranged x t)

-- ---- the others
pub root_zero : of_bits binary64 0 ≡ root binary64 (of_bits binary64 0)
unfolding root of_bits
root_zero = refl

pub root_infinity : of_bits binary64 0x7ff0_0000_0000_0000 ≡ root binary64 (of_bits binary64 0x7ff0_0000_0000_0000)
unfolding root of_bits
root_infinity = refl

pub root_minus_zero : neg (of_bits binary64 0) ≡ root binary64 (of_bits binary64 (2 ^ 63))
unfolding root of_bits neg
root_minus_zero = refl

root_nan : (v : Float) → is_nan v ≡ true → root binary64 v ≡ nan
unfolding root is_nan
root_nan nan h = refl
root_nan (inf s) h = absurd (subst T (sym h) tt)
root_nan (fin s m e) h = absurd (subst T (sym h) tt)

the_nan : of_bits binary64 0x7ff8_0000_0000_0000 ≡ nan
unfolding of_bits
the_nan = refl

negative : (x t : ℕ) → 0 < x + t → root binary64 (of_fields binary64 true x t) ≡ nan
unfolding of_fields root
negative zero t o = root_below (odd 53 true t 0 1074) (t * 2 ^ 0) (odd_sign 53 true t 0 1074) (mul-pos (omega arith) (pow_pos 0))
negative (suc x) t o = go (eqb (suc x) 2047) (eqb t 0)
  where
    go : (a b : Bool) → root binary64 (cond a (cond b (inf true) nan) (odd 53 true (2 ^ 52 + t) x 1074)) ≡ nan
    go true true = refl
    go true false = refl
    go false b =
        root_below (odd 53 true (2 ^ 52 + t) x 1074) ((2 ^ 52 + t) * 2 ^ x) (odd_sign 53 true (2 ^ 52 + t) x 1074) (mul-pos (omega arith) (pow_pos x))

-- above the infinity's pattern: a NaN, or a sign and a value that is not zero, or -0
pub root_rest : (n : ℕ) → n < 2 ^ 64 → 0x7ff0_0000_0000_0000 < n → (n ≡ 2 ^ 63 → ⊥)
    → of_bits binary64 0x7ff8_0000_0000_0000 ≡ root binary64 (of_bits binary64 n)
root_rest n w h z = the_nan ∙ sym (go (leb (2 ^ 63) n) refl)
  where
    go : (b : Bool) → leb (2 ^ 63) n ≡ b → root binary64 (of_bits binary64 n) ≡ nan
    go true e =
        ap (root binary64) (signed n (leb-true _ _ e))
        ∙ negative (n % 2 ^ 63 / 2 ^ 52) (n % 2 ^ 52) (let l : (2 ^ 63) ≤ n = leb-true (2 ^ 63) n e in omega arith)
    go false e =
        root_nan (of_bits binary64 n)
        (sym (nan_bits_is binary64 n) ∙ nan_bits_above binary64 n ∙ lt-ltb 0x7ff0_0000_0000_0000 (n % 2 ^ 63) (let l : n < (2 ^ 63) =
        leb-false (2 ^ 63) n e in omega arith))
