-- Case N of 01: cells at tolerance 1, where -0.25 is in -1 and -0.0 in 0; and at the edges of the range, at infinities and at a NaN. All are computed.
use Rattle.std.proofs.Common.{◌≡◌, ℕ, ◌-◌, ◌^◌, ℤ, pos, negsuc, refl}
use lib.Ieee.{binary64, of_bits, sub, div}
use Rattle.rules.specs.Cell.{cell, floor64}
use Rattle.float_cell.specs.Lifted.{lifted}

-- the cell of a coordinate's bits at tolerance 1, from 0 on
abbrev at_one : ℕ → ℤ
at_one n = cell (of_bits binary64 0x3ff0_0000_0000_0000) (of_bits binary64 0) n

pub case_n : (at_one 0xbfd0_0000_0000_0000 ≡ negsuc 0) × (at_one 0x8000_0000_0000_0000 ≡ pos 0)
unfolding cell of_bits floor64 sub div
case_n = (refl, refl)

-- 2 ^ 63, -(2 ^ 63), the infinities, a NaN, the smallest double and its negative
pub edges : (at_one 0x43e0_0000_0000_0000 ≡ pos (2 ^ 63 - 1))
    × (at_one 0xc3e0_0000_0000_0000 ≡ negsuc (2 ^ 63 - 1))
    × (at_one 0x7ff0_0000_0000_0000 ≡ pos (2 ^ 63 - 1))
    × (at_one 0xfff0_0000_0000_0000 ≡ negsuc (2 ^ 63 - 1))
    × (at_one 0x7ff8_0000_0000_0000 ≡ pos 0)
    × (at_one 1 ≡ pos 0)
    × (at_one 0x8000_0000_0000_0001 ≡ negsuc 0)
unfolding cell of_bits floor64 sub div
edges = (refl, refl, refl, refl, refl, refl, refl)

pub keys : (lifted (at_one 0xbfd0_0000_0000_0000) ≡ (2 ^ 63 - 1)) × (lifted (at_one 0x8000_0000_0000_0000) ≡ 2 ^ 63)
unfolding cell of_bits floor64 sub div
keys = (refl, refl)
