-- An `i64` as the code holds it is the integer itself where it is in range, as a floor always is.
use Rattle.std.proofs.Common.{◌≡◌, ℕ, zero, suc, ◌-◌, ◌*◌, ◌/◌, ◌^◌, ◌<◌, ◌≤◌, min, true, false, ℤ, pos, neg_ℤ, arith, w64, to_z, of_z}
use lib.Signed.{mag}
use lib.Ieee.{Float, nan, inf, fin, up, down}
use mir.ValLaws.{to_z-of_z}
use Rattle.rules.specs.Cell.{ceiling, floor64}

abbrev pub held : ℤ → ℤ
held z = to_z w64 (of_z w64 z)

pub held_is : (z : ℤ) → mag z < 2 ^ 63 → held z ≡ z
held_is z h = to_z-of_z w64 z (record { sfits = h })

least : (n : ℕ) → mag (neg_ℤ (pos (min n (2 ^ 63)))) < 2 ^ 63
least n = go (min n (2 ^ 63)) (omega arith)
  where
    go : (k : ℕ) → k ≤ 2 ^ 63 → mag (neg_ℤ (pos k)) < 2 ^ 63
    go zero h = omega arith
    go (suc k) h = omega arith

pub floor_in : (x : Float) → mag (floor64 x) < 2 ^ 63
unfolding floor64
floor_in nan = omega arith
floor_in (inf true) = omega arith
floor_in (inf false) = omega arith
floor_in (fin true m e) = least (ceiling (m * up e) (down e))
floor_in (fin false m e) = most (m * up e / down e)
  where
    most : (n : ℕ) → min n (2 ^ 63 - 1) < 2 ^ 63
    most n = omega arith
