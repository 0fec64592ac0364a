-- Squares of sums; and only one whole number is nearest to a root, since the squares of neighbours lie too far apart.
use mathlib.Core.Path.{◌≡◌}
use Prim.Native.Nat.{ℕ, suc, ◌+◌, ◌*◌, ◌≤◌, ◌<◌, zero-le}
use native.Mathlib.Nat.{add-mul, mul-add, mul-mul-mul_comm, mul-le-mul, mul-le-mul_left, mul-le-mul_right, mul-lt-mul_of_pos_right, le_antisymm, le_of_lt, lt_of_le_of_lt, le_of_suc-le-suc, lt_of_not-le}
use native.Mathlib.Omega.{arith}
use Rattle.float_whole_root.specs.Near.{Near}

pub sq_more : (a : ℕ) → (a + 1) * (a + 1) ≡ a * a + 2 * a + 1
sq_more a = omega (arith, add-mul a 1 (a + 1), mul-add a a 1)

pub sq_twice : (a : ℕ) → (2 * a) * (2 * a) ≡ 4 * (a * a)
sq_twice a = mul-mul-mul_comm 2 a 2 a

pub sq_odd : (a : ℕ) → (2 * a + 1) * (2 * a + 1) ≡ 4 * (a * a) + 4 * a + 1
sq_odd a = omega (arith, sq_more (2 * a), sq_twice a)

pub twice_sq : (a : ℕ) → (a * 2) * (a * 2) ≡ 4 * (a * a)
twice_sq a = omega (arith, mul-mul-mul_comm a 2 a 2)

pub odd_sq : (a : ℕ) → (a * 2 + 1) * (a * 2 + 1) ≡ 4 * (a * a) + 4 * a + 1
odd_sq a = omega (arith, sq_more (a * 2), twice_sq a)

pub sq_mono : {a b : ℕ} → a ≤ b → a * a ≤ b * b
sq_mono h = mul-le-mul h h

pub sq_lt : {a b : ℕ} → a < b → a * a < b * b
sq_lt {a} {b} h = lt_of_le_of_lt (mul-le-mul_left a (le_of_lt h)) (mul-lt-mul_of_pos_right h (lt_of_le_of_lt zero-le h))

-- ---- two whole numbers that are nearest to one root are the same

no_less : (c r s : ℕ) → Near c r → Near c s → r < s → ⊥
no_less c r s p q h =
    let l : r + 1 ≤ s = omega arith in
    omega (arith, mul-le-mul_left s l, mul-add s r 1, mul-le-mul_right r l, add-mul r 1 r)

pub only : (c r s : ℕ) → Near c r → Near c s → r ≡ s
only c r s p q = le_antisymm (lt_or s r (no_less c s r q p)) (lt_or r s (no_less c r s p q))
  where
    lt_or : (a b : ℕ) → (a < b → ⊥) → b ≤ a
    lt_or a b n = le_of_suc-le-suc (lt_of_not-le (λ (g : suc a ≤ b). n g))
