-- How many binary digits a number has, and the power of four that its root drops.
use mathlib.Core.Path.{◌≡◌, refl, sym, ap, ◌∙◌, subst}
use Prim.Native.Nat.{ℕ, zero, suc, ◌+◌, ◌-◌, ◌*◌, ◌/◌, ◌^◌, ◌≤◌, ◌<◌}
use native.Mathlib.Nat.{pow-suc, add-suc, suc-add, mul_assoc, mul-le-mul_right, lt_of_not-le, lt_irrefl, lt_of_lt_of_le, lt_of_le_of_lt}
use native.Mathlib.Omega.{arith}
use lib.Pow.{pow-add, pow_mono, shl_lt}
use lib.Ieee.{size}
use lib.Ieee.Digits.{size-lt, size-le}

pub pow_back : (i p : ℕ) → 2 ^ i < 2 ^ p → i < p
pow_back i p h = lt_of_not-le (λ (g : p ≤ i). lt_irrefl (2 ^ i) (lt_of_lt_of_le h (pow_mono g)))

pub size_above : (a n : ℕ) → 2 ^ a ≤ n → a < size n
size_above a n h = pow_back a (size n) (lt_of_le_of_lt h (size-lt n))

pub four : (k : ℕ) → 4 ^ k ≡ 2 ^ (k + k)
four zero = refl
four (suc k) =
    pow-suc 4 k
    ∙ ap (λ (x : ℕ). x * 4) (four k)
    ∙ sym (mul_assoc (2 ^ (k + k)) 2 2)
    ∙ ap (λ (x : ℕ). x * 2) (sym (pow-suc 2 (k + k)))
    ∙ sym (pow-suc 2 (suc (k + k)))
    ∙ ap (λ (x : ℕ). 2 ^ x) (sym (add-suc (suc k) k ∙ ap suc (suc-add k k)))

-- a number of a + 1 digits, and j zeros after it
pub sized : (a j n : ℕ) → 2 ^ a ≤ n → n < 2 ^ suc a → size (n * 2 ^ j) ≡ suc a + j
sized a j n lo hi =
    let l = size_above (a + j) (n * 2 ^ j) (subst (λ (x : ℕ). x ≤ n * 2 ^ j) (sym (pow-add 2 a j)) (mul-le-mul_right (2 ^ j) lo)) in
    let u = size-le (n * 2 ^ j) (suc a + j) (shl_lt (suc a) j hi) in
    omega arith

-- a number of 105 or 106 digits, and 2 * k zeros after it
pub half_size : (c k : ℕ) → 2 ^ 104 ≤ c → c < 2 ^ 106 → (size (c * 4 ^ k) + 1) / 2 - 53 ≡ k
half_size c k lo hi =
    let j = k + k in
    let e : c * 4 ^ k ≡ c * 2 ^ j = ap (λ (x : ℕ). c * x) (four k) in
    let l : 104 + j < size (c * 4 ^ k) = subst (λ (x : ℕ). 104 + j < size x) (sym e) (size_above (104 + j) (c * 2 ^ j) (subst (λ (x : ℕ). x ≤ c * 2 ^ j) (sym (pow-add 2 104 j)) (mul-le-mul_right (2 ^ j) lo))) in
    let u : size (c * 4 ^ k) ≤ 106 + j = subst (λ (x : ℕ). size x ≤ 106 + j) (sym e) (size-le (c * 2 ^ j) (106 + j) (shl_lt 106 j hi)) in
    omega arith
