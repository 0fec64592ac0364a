-- Doubles as multiples of powers of two: none lies between q * 2 ^ k and (q + 1) * 2 ^ k for a q of 53 digits. A multiple of 2 ^ k does not, and a multiple
-- of a smaller power, which has 53 digits at most, is too small.
use mathlib.Core.Path.{◌≡◌, sym, ap, ◌∙◌, subst}
use mathlib.Core.Bool.{Bool, true, false, not, ◌&&◌}
use Prim.Native.Nat.{ℕ, zero, suc, ◌+◌, ◌-◌, ◌*◌, ◌/◌, ◌%◌, ◌^◌, ◌≤◌, ◌<◌}
use native.Mathlib.Nat.{zero-mul, mul-one, mul_assoc, mul-le-mul_right, mul-div_cancel, lt_of_mul-lt-mul_right, lt_of_lt_of_le, lt_of_le_of_lt, le_trans, le_of_eq, lt_irrefl, lt_trans, le_of_suc-le-suc, sub-add_cancel, zero-lt-suc, lt-suc_self, zero-div, mul_right_comm, mul-lt-mul_of_pos_right}
use native.Mathlib.Omega.{arith}
use lib.Dec.{T, leb, ltb, eqb, ltb→lt, leb→le, nleb→lt}
use lib.IntN.{ℤ, pos, negsuc}
use lib.Pow.{pow-add, pow_pos, pow_mono, pow-lt, shl_lt}
use lib.Ieee.{Float, nan, inf, fin, binary64, up, down, fits}
use lib.Ieee.Scale.{finite}
use lib.Ieee.Positive.{num, den}
use lib.Ieee.Fits.{and_l, and_r, down_pos}
use lib.Ieee.Exact.{HasValue}
use Rattle.float_root.specs.Nearest.{count}
use Rattle.float_root.proofs.Size.{pow_back}

-- ---- a double is a * 2 ^ j smallest values, with an a of 53 digits at most
pub record Double (v : Float) (a j : ℕ) : Type 0 where
  pub short : a < 2 ^ 53
  pub counted : count v ≡ a * 2 ^ j
  pub exact : num v * 2 ^ 1074 ≡ a * 2 ^ j * den v
  pub bounded : a * 2 ^ j < 2 ^ 2098

pow_le_back : (a l : ℕ) → 2 ^ a ≤ 2 ^ l → a ≤ l
pow_le_back a l h = le_of_suc-le-suc (pow_back a (suc l) (lt_of_le_of_lt h (pow-lt (lt-suc_self l))))

place : (e : ℤ) → down e ≤ 2 ^ 1074 → (j : ℕ) × ((m : ℕ) → m * up e * 2 ^ 1074 ≡ m * 2 ^ j * down e)
place (pos a) h =
    (a + 1074, λ m. mul_assoc m (2 ^ a) (2 ^ 1074) ∙ ap (λ (x : ℕ). m * x) (sym (pow-add 2 a 1074)) ∙ sym (mul-one (m * 2 ^ (a + 1074))))
place (negsuc a) h = (
  1074 - suc a,
  λ m.
      ap (λ (x : ℕ). x * 2 ^ 1074) (mul-one m)
      ∙ ap (λ (x : ℕ). m * x) (ap (λ (x : ℕ). 2 ^ x) (sym (sub-add_cancel (pow_le_back (suc a) 1074 h))) ∙ pow-add 2 (1074 - suc a) (suc a))
      ∙ sym (mul_assoc m (2 ^ (1074 - suc a)) (2 ^ suc a)),
)

-- a value's count, from its size as a fraction
pub count_value : (v : Float) (s : Bool) (a : ℕ) → HasValue v s a (2 ^ 1074) → count v ≡ a
count_value nan s a h = absurd h
count_value (inf t) s a h = absurd h
count_value (fin t m e) s a h = ap (λ (x : ℕ). x / down e) h.1 ∙ mul-div_cancel a (down_pos e)

nothing : (e : ℤ) → 0 * up e * 2 ^ 1074 ≡ 0
nothing e = ap (λ (x : ℕ). x * 2 ^ 1074) (zero-mul (up e)) ∙ zero-mul (2 ^ 1074)

within : (x d y : ℕ) → x < 2 ^ 1024 * d → x * 2 ^ 1074 ≡ y * d → y < 2 ^ 2098
within x d y h e =
    lt_of_mul-lt-mul_right d (subst (λ (z : ℕ). z < 2 ^ 2098 * d) e (subst (λ (z : ℕ). x * 2 ^ 1074 < z) (mul_right_comm (2 ^ 1024) d (2 ^ 1074)) (mul-lt-mul_of_pos_right h (pow_pos 1074))))

pub double : (v : Float) → T (fits binary64 v) → T (finite v) → (a : ℕ) × (j : ℕ) × Double v a j
unfolding fits
double nan h f = absurd f
double (inf s) h f = absurd f
double (fin s zero e) h f =
    (0, 0, record { short = zero-lt-suc (2 ^ 53 - 1); counted = ap (λ (x : ℕ). x / down e) (nothing e) ∙ zero-div (down e); exact = nothing e ∙ sym (zero-mul (down e)); bounded = pow_pos 2098 })
double (fin s (suc m) e) h f =
    let A = eqb (suc m % 2) 1 in
    let B = ltb (suc m) (2 ^ 53) in
    let C = leb (down e) (2 ^ 1074) in
    let D = ltb (suc m * up e) (2 ^ 1024 * down e) in
    let p = place e (leb→le (down e) (2 ^ 1074) (and_r (A && B) C (and_l (A && B && C) D h))) in (
      suc m,
      p.0,
      record {
        short = ltb→lt (suc m) (2 ^ 53) (and_r A B (and_l (A && B) C (and_l (A && B && C) D h)));
        counted = ap (λ (x : ℕ). x / down e) (p.1 (suc m)) ∙ mul-div_cancel (suc m * 2 ^ p.0) (down_pos e);
        exact = p.1 (suc m);
        bounded =
            within (suc m * up e) (down e) (suc m * 2 ^ p.0) (ltb→lt (suc m * up e) (2 ^ 1024 * down e) (and_r (A && B && C) D h)) (p.1 (suc m));
      },
    )

-- ---- between q * 2 ^ k and (q + 1) * 2 ^ k, for a q of 53 digits, lies no double
pub none_between : (a j q k : ℕ) → a < 2 ^ 53 → 2 ^ 52 ≤ q → q * 2 ^ k < a * 2 ^ j → a * 2 ^ j < (q + 1) * 2 ^ k → ⊥
none_between a j q k s n lo hi = go (leb k j) (leb→le k j) (nleb→lt k j)
  where
    no : (b : ℕ) → a * 2 ^ j ≡ b * 2 ^ k → ⊥
    no b e =
        let l : q < b = lt_of_mul-lt-mul_right (2 ^ k) (subst (λ (x : ℕ). q * 2 ^ k < x) e lo) in
        let u : b < q + 1 = lt_of_mul-lt-mul_right (2 ^ k) (subst (λ (x : ℕ). x < (q + 1) * 2 ^ k) e hi) in
        omega arith

    go : (b : Bool) → (T b → k ≤ j) → (T (not b) → j < k) → ⊥
    go true y z =
        no (a * 2 ^ (j - k)) (ap (λ (x : ℕ). a * x) (ap (λ (x : ℕ). 2 ^ x) (sym (sub-add_cancel (y tt))) ∙ pow-add 2 (j - k) k) ∙ sym (mul_assoc a (2 ^ (j - k)) (2 ^ k)))
    go false y z =
        let l : j < k = z tt in
        let m : 2 ^ (53 + j) ≤ 2 ^ (52 + k) = pow_mono {i = 53 + j} {j = 52 + k} (omega arith) in
        let r : (2 ^ 52) * 2 ^ k ≤ q * 2 ^ k = mul-le-mul_right (2 ^ k) n in
        lt_irrefl (q * 2 ^ k) (lt_trans lo (lt_of_lt_of_le (shl_lt 53 j s) (le_trans m (le_trans (le_of_eq (pow-add 2 52 k)) r))))
