-- A significand r of 53 digits, or 2 ^ 53, at 2 ^ k of the smallest values, is written as the pattern k * 2 ^ 52 + r.
use mathlib.Core.Path.{◌≡◌, sym, ap, ◌∙◌}
use mathlib.Core.Bool.{Bool, false, cond}
use mathlib.Core.Logic.{◌⊎◌, inl, inr}
use Prim.Native.Nat.{ℕ, suc, ◌+◌, ◌-◌, ◌*◌, ◌/◌, ◌^◌, ◌≤◌, ◌<◌, compare}
use native.Mathlib.Nat.{zero-add, mul_assoc, mul-div_cancel, pow-succ', lt_of_lt_of_le, eq-or-lt_of_le}
use native.Mathlib.Omega.{arith}
use lib.Dec.{ltb, lt→ltb}
use lib.Pow.{pow_pos, pow_mono, shl_lt}
use lib.Ieee.{Float, nan, inf, fin, binary64, up, down, size, nearest, odd, units, to_bits, of_bits}
use lib.Ieee.Fits.{down_pos, odd-fits}
use lib.Ieee.Exact.{HasValue, odd_sign}
use lib.Ieee.Bits.{of_bits-to_bits, is_true}
use Rattle.rules.specs.Root.{floor_root, root_units}
use Rattle.float_whole_root.specs.Near.{Near}
use Rattle.float_root.proofs.Floor.{rounded, four_pos}
use Rattle.float_root.proofs.Size.{sized, half_size}

-- the bits of a value of a smallest values
pub pattern : (v : Float) (a : ℕ) → HasValue v false a (2 ^ 1074) → to_bits binary64 v ≡ (size a - 53) * 2 ^ 52 + a / 2 ^ (size a - 53)
unfolding to_bits
pattern nan a h = absurd h
pattern (inf s) a h = absurd h
pattern (fin s m e) a h =
    ap (λ (t : Bool). cond t (2 ^ 63) 0 + (size (m * up e * 2 ^ 1074 / down e) - 53) * 2 ^ 52 + m * up e * 2 ^ 1074 / down e / 2 ^ (size (m * up e * 2 ^ 1074 / down e) - 53)) h.0
    ∙ ap (λ (x : ℕ). 0 + (size x - 53) * 2 ^ 52 + x / 2 ^ (size x - 53)) (ap (λ (x : ℕ). x / down e) h.1 ∙ mul-div_cancel a (down_pos e))
    ∙ ap (λ (x : ℕ). x + a / 2 ^ (size a - 53)) (zero-add ((size a - 53) * 2 ^ 52))

written : (r k : ℕ) → 2 ^ 52 ≤ r → r ≤ 2 ^ 53
    → (size (r * 2 ^ k) - 53) * 2 ^ 52 + r * 2 ^ k / 2 ^ (size (r * 2 ^ k) - 53) ≡ k * 2 ^ 52 + r
written r k lo hi = go (eq-or-lt_of_le hi)
  where
    drop : (k : ℕ) → 53 + k - 53 ≡ k
    drop k = omega arith

    drop_one : (k : ℕ) → 54 + k - 53 ≡ suc k
    drop_one k = omega arith

    go : (r ≡ 2 ^ 53) ⊎ (r < 2 ^ 53)
        → (size (r * 2 ^ k) - 53) * 2 ^ 52 + r * 2 ^ k / 2 ^ (size (r * 2 ^ k) - 53) ≡ k * 2 ^ 52 + r
    go (inl e) =
        let z : size (r * 2 ^ k) - 53 ≡ suc k = ap (λ (x : ℕ). x - 53) (sized 53 k r (omega arith) (omega arith)) ∙ drop_one k in
        let d : r * 2 ^ k / 2 ^ suc k ≡ (2 ^ 52) =
        ap (λ (x : ℕ). x * 2 ^ k / 2 ^ suc k) e
        ∙ ap (λ (x : ℕ). x / 2 ^ suc k) (mul_assoc (2 ^ 52) 2 (2 ^ k) ∙ ap (λ (x : ℕ). (2 ^ 52) * x) (sym (pow-succ' 2 k)))
        ∙ mul-div_cancel (2 ^ 52) (pow_pos (suc k)) in
        ap (λ (x : ℕ). x * 2 ^ 52 + r * 2 ^ k / 2 ^ x) z ∙ omega (arith, d)
    go (inr l) =
        let z : size (r * 2 ^ k) - 53 ≡ k = ap (λ (x : ℕ). x - 53) (sized 52 k r lo l) ∙ drop k in
        ap (λ (x : ℕ). x * 2 ^ 52 + r * 2 ^ k / 2 ^ x) z ∙ ap (λ (x : ℕ). k * 2 ^ 52 + x) (mul-div_cancel r (pow_pos k))

pub units_bits : (r k : ℕ) → 2 ^ 52 ≤ r → r ≤ 2 ^ 53 → k ≤ 1600
    → of_bits binary64 (k * 2 ^ 52 + r) ≡ units binary64 false r k
unfolding units
units_bits r k lo hi h =
    let fine : r * 2 ^ k < 2 ^ 2098 = lt_of_lt_of_le (shl_lt 54 k (omega arith)) (pow_mono {i = 54 + k} {j = 2098} (omega arith)) in
    let v = odd 54 false r k 1074 in
    ap (of_bits binary64) (sym (pattern v (r * 2 ^ k) (odd_sign 54 false r k 1074) ∙ written r k lo hi))
    ∙ of_bits-to_bits binary64 v (odd-fits binary64 54 false r k (omega arith) hi fine)
    ∙ ap (λ (b : Bool). cond b v (inf false)) (sym (is_true (ltb (r * 2 ^ k) (2 ^ 2098)) (lt→ltb (r * 2 ^ k) (2 ^ 2098) fine)))

-- the root of c * 4 ^ k squares of the smallest value
pub root_at : (c k r : ℕ) → 2 ^ 104 ≤ c → c < 2 ^ 106 → Near c r → root_units binary64 (c * 4 ^ k) ≡ units binary64 false r k
unfolding root_units
root_at c k r lo hi near =
    ap (λ (j : ℕ). units binary64 false (nearest (floor_root (c * 4 ^ k / 4 ^ j)) (compare (4 * (c * 4 ^ k)) ((2 * floor_root (c * 4 ^ k / 4 ^ j) + 1) * (2 * floor_root (c * 4 ^ k / 4 ^ j) + 1) * 4 ^ j))) j) (half_size c k lo hi)
    ∙ ap (λ (x : ℕ). units binary64 false (nearest (floor_root x) (compare (4 * (c * 4 ^ k)) ((2 * floor_root x + 1) * (2 * floor_root x + 1) * 4 ^ k))) k) (mul-div_cancel c (four_pos k))
    ∙ ap (λ (x : ℕ). units binary64 false x k) (rounded c k r (omega arith) near)
