-- What a test of g settles: where the root lies more than 3/2 above g or below it, none of g - 1, g and g + 1 is nearest to it, since r * r + r
-- and r * r - r grow with r; elsewhere one of them is, and the distance of the squares says which.
use mathlib.Core.Path.{◌≡◌, sym, ap, ◌∙◌}
use mathlib.Core.Bool.{true≢false}
use mathlib.Core.Logic.{◌⊎◌, inl, inr}
use mir.Val.{bool_byte}
use lib.Dec.{ltb, leb}
use Prim.Native.Nat.{ℕ, ◌+◌, ◌-◌, ◌*◌, ◌≤◌, ◌<◌}
use native.Mathlib.Nat.{mul-add, mul-le-mul_left, mul-le-mul_right, eq-or-lt_of_le}
use native.Mathlib.Omega.{arith}
use Rattle.std.specs.Prelude.{Some, None}
use Rattle.float_whole_root.specs.Near.{Near, Settles}
use Rattle.float_whole_root.proofs.Squares.{sq_more, sq_mono}
use Rattle.float_whole_root.proofs.Exact.{byte_le, moved}

-- r * r - r grows with r
grows : {p s : ℕ} → p ≤ s → p * p + s ≤ s * s + p
grows {p} {s} h = go (eq-or-lt_of_le h)
  where
    go : (p ≡ s) ⊎ (p < s) → p * p + s ≤ s * s + p
    go (inl e) = omega (arith, ap (λ (x : ℕ). x * x) e)
    go (inr l) =
        let k : p + 1 ≤ s = omega arith in omega (arith, mul-le-mul_left s k, mul-add s p 1, mul-le-mul_right p h)

module _ (c g : ℕ) where
  -- the root lies above g + 3/2 or below g - 3/2
  pub apart : 2 ≤ g → (g * g + g * 3 + 2 < c) ⊎ (c + g * 3 ≤ g * g + 2) → Settles c g None
  apart o h = record { near = tt; beside = tt; elsewhere = λ z s l u n. go s l u n h }
    where
      go : (s : ℕ) → g ≤ s + 1 → s ≤ g + 1 → Near c s → (g * g + g * 3 + 2 < c) ⊎ (c + g * 3 ≤ g * g + 2) → ⊥
      go s l u n (inl h) = omega (arith, n.over, sq_mono u, sq_more g)
      go s l u n (inr h) =
          let j : g - 1 + 1 ≡ g = omega arith in
          let q : g * g ≡ (g - 1) * (g - 1) + 2 * (g - 1) + 1 = ap (λ (x : ℕ). x * x) (sym j) ∙ sq_more (g - 1) in
          let k : g - 1 ≤ s = omega arith in
          omega (arith, n.under, grows k)

  -- the distance is small
  pub beside : 2 ≤ g → c ≤ g * g + g * 3 + 2 → g * g + 2 < c + g * 3
      → Settles c g (Some (g + bool_byte (ltb (g * g + g) c) - bool_byte (leb (c + g) (g * g))))
  beside o h k =
      let a = byte_le (ltb (g * g + g) c) in
      let b = byte_le (leb (c + g) (g * g)) in
      record { near = moved c g o h k; beside = (omega arith, omega arith); elsewhere = λ z. absurd (true≢false z) }
