-- What the distance of the square of g from c shows: which of g - 1, g and g + 1 is nearest to the root of c.
use mathlib.Core.Path.{◌≡◌, refl, sym, ap, ◌∙◌, subst}
use mathlib.Core.Bool.{Bool, true, false}
use borrow.Author.Tests.{ltb-true, ltb-false, leb-true, leb-false}
use mir.Val.{bool_byte}
use lib.Dec.{T, ltb, leb, le→leb}
use lib.IntN.{pos}
use lib.Ieee.{binary64, in_float}
use Prim.Native.Nat.{ℕ, ◌+◌, ◌-◌, ◌*◌, ◌/◌, ◌≤◌, ◌<◌, ◌^◌}
use native.Mathlib.Omega.{arith}
use Rattle.float_whole_root.specs.Near.{Near}
use Rattle.float_whole_root.proofs.Squares.{sq_more}

module _ (c g : ℕ) where
  above : g * g + g < c → c ≤ g * g + g * 3 + 2 → Near c (g + 1)
  above h k = let q = sq_more g in record { under = omega arith; over = omega arith }

  beneath : 2 ≤ g → c + g ≤ g * g → g * g + 2 < c + g * 3 → Near c (g - 1)
  beneath o h k =
      let j : g - 1 + 1 ≡ g = omega arith in
      let q : g * g ≡ (g - 1) * (g - 1) + 2 * (g - 1) + 1 = ap (λ (x : ℕ). x * x) (sym j) ∙ sq_more (g - 1) in
      record { under = omega arith; over = omega arith }

  there : c ≤ g * g + g → g * g < c + g → Near c g
  there h k = record { under = omega arith; over = omega arith }

-- ---- one up or one down by a test's value
pub byte_le : (b : Bool) → bool_byte b ≤ 1
byte_le true = omega arith
byte_le false = omega arith

pub moved : (c g : ℕ) → 2 ≤ g → c ≤ g * g + g * 3 + 2 → g * g + 2 < c + g * 3
    → Near c (g + bool_byte (ltb (g * g + g) c) - bool_byte (leb (c + g) (g * g)))
moved c g o h k = go (ltb (g * g + g) c) refl (leb (c + g) (g * g)) refl
  where
    go : (a : Bool) → ltb (g * g + g) c ≡ a → (b : Bool) → leb (c + g) (g * g) ≡ b → Near c (g + bool_byte a - bool_byte b)
    go true s true t = absurd (omega (arith, ltb-true (g * g + g) c s, leb-true (c + g) (g * g) t))
    go true s false t =
        let z : g + 1 ≡ g + 1 - 0 = omega arith in subst (Near c) z (above c g (ltb-true (g * g + g) c s) h)
    go false s true t =
        let z : g - 1 ≡ g + 0 - 1 = omega arith in subst (Near c) z (beneath c g o (leb-true (c + g) (g * g) t) k)
    go false s false t =
        let z : g ≡ g + 0 - 0 = omega arith in subst (Near c) z (there c g (ltb-false (g * g + g) c s) (leb-false (c + g) (g * g) t))

-- ---- the float of a number below 2 ^ 54, halved, loses nothing
pub half_in : (w : ℕ) → w < 2 ^ 54 → T (in_float binary64 (pos (w / 2)))
unfolding in_float
half_in w h = le→leb (w / 2) (2 ^ 53) (omega arith)
