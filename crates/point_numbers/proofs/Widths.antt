-- The width of a type, arm by arm.
use Prim.Native.Nat.{ℕ, ◌*◌, ◌≤◌, ◌<◌}
use mathlib.Core.Path.{◌≡◌, refl, ap, ◌∙◌}
use mathlib.Core.Bool.{Bool, true, false}
use native.Mathlib.Omega.{arith}
use native.Mathlib.Nat.{mul-le-mul_right}
use lib.Dec.{eqb}
use borrow.Author.Tests.{ne_eqb, eqb-true, eqb-false}
use Rattle.rules.specs.Types.{width_of}

-- a type, named by its number k
pub width_known : (t k w : ℕ) → t ≡ k → width_of k ≡ w → width_of t ≡ w
width_known t k w f h = ap width_of f ∙ h

pub width_none : (t : ℕ) → (t ≡ 2 → ⊥) → (t ≡ 1002 → ⊥) → (t ≡ 2002 → ⊥) → (t ≡ 3002 → ⊥) → width_of t ≡ 0
unfolding width_of
width_none t a b c d = rw (ne_eqb t 2 a, ne_eqb t 1002 b, ne_eqb t 2002 c, ne_eqb t 3002 d, width_of)

-- what is a type has x and y
pub width_two : (t : ℕ) → (width_of t ≡ 0 → ⊥) → 2 ≤ width_of t
unfolding width_of
width_two t n = go (eqb t 2) (eqb t 1002) (eqb t 2002) (eqb t 3002) refl refl refl refl
  where
    go : (a b c d : Bool) → eqb t 2 ≡ a → eqb t 1002 ≡ b → eqb t 2002 ≡ c → eqb t 3002 ≡ d → 2 ≤ width_of t
    go true b c d e f g h = omega (arith, width_known t 2 2 (eqb-true t 2 e) refl)
    go false true c d e f g h = omega (arith, width_known t 1002 3 (eqb-true t 1002 f) refl)
    go false false true d e f g h = omega (arith, width_known t 2002 3 (eqb-true t 2002 g) refl)
    go false false false true e f g h = omega (arith, width_known t 3002 4 (eqb-true t 3002 h) refl)
    go false false false false e f g h =
        absurd (n (width_none t (eqb-false t 2 e) (eqb-false t 1002 f) (eqb-false t 2002 g) (eqb-false t 3002 h)))

pub width_most : (t : ℕ) → width_of t ≤ 4
unfolding width_of
width_most t = go (eqb t 2) (eqb t 1002) (eqb t 2002) (eqb t 3002) refl refl refl refl
  where
    go : (a b c d : Bool) → eqb t 2 ≡ a → eqb t 1002 ≡ b → eqb t 2002 ≡ c → eqb t 3002 ≡ d → width_of t ≤ 4
    go true b c d e f g h = omega (arith, width_known t 2 2 (eqb-true t 2 e) refl)
    go false true c d e f g h = omega (arith, width_known t 1002 3 (eqb-true t 1002 f) refl)
    go false false true d e f g h = omega (arith, width_known t 2002 3 (eqb-true t 2002 g) refl)
    go false false false true e f g h = omega (arith, width_known t 3002 4 (eqb-true t 3002 h) refl)
    go false false false false e f g h =
        omega (arith, width_none t (eqb-false t 2 e) (eqb-false t 1002 f) (eqb-false t 2002 g) (eqb-false t 3002 h))

-- a count of 32 bits times a width
pub product_small : (a b : ℕ) → a < 4294967296 → b ≤ 4 → a * b ≤ 17179869180
product_small a b h k =
    let p : a * b ≤ 4294967295 * b = mul-le-mul_right b (omega arith) in
    omega arith
