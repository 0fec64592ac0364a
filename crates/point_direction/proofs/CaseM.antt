-- Case M of 01: the direction of dx, dy = 0, of the difference itself and of a piece of two points seen from either side. All are computed.
use mathlib.Core.Path.{◌≡◌, refl}
use mathlib.Core.Bool.{false}
use mathlib.Core.List.{[], List, ◌∷◌}
use Prim.Native.Nat.{ℕ}
use lib.IntN.{pos, negsuc}
use lib.Ieee.{fin, neg, eq, lt, add, sub, mul}
use Rattle.rules.specs.Root.{root}
use Rattle.rules.specs.Answers.{Direction}
use Rattle.rules.specs.Answers.{Absent, Toward}
use Rattle.rules.specs.Plane.{nought, unity, points, toward, direction_of}
use Rattle.rules.proofs.Computing.{book}
use Rattle.point_direction.specs.Seen.{seen}

pub case_m : (toward (fin false 1 (negsuc 536)) nought ≡ Toward unity nought)
    × (toward (fin false 1 (negsuc 537)) nought ≡ Absent)
    × (toward (fin false 1 (pos 511)) nought ≡ Toward unity nought)
    × (toward (fin false 1 (pos 512)) nought ≡ Toward nought nought)
unfolding book root lt add mul
case_m = (refl, refl, refl, refl)

abbrev at : ℕ → List ℕ → Direction
at side l = direction_of (seen side (points 2 l))

-- a piece from 0,0 to x,0, seen from its first point; and one from x,0 to 0,0, seen from its last
abbrev out : ℕ → List ℕ
out n = 0 ∷ 0 ∷ n ∷ 0 ∷ []

abbrev home : ℕ → List ℕ
home n = n ∷ 0 ∷ 0 ∷ 0 ∷ []

-- 2 ^ -537, 2 ^ -538, 2 ^ 511 and 2 ^ 512 as bits
pub case_m_first : (at 0 (out 0x1e60_0000_0000_0000) ≡ Toward unity nought)
    × (at 0 (out 0x1e50_0000_0000_0000) ≡ Absent)
    × (at 0 (out 0x5fe0_0000_0000_0000) ≡ Toward unity nought)
    × (at 0 (out 0x5ff0_0000_0000_0000) ≡ Toward nought nought)
unfolding book root neg eq lt add sub mul
case_m_first = (refl, refl, refl, refl)

pub case_m_last : (at 1 (home 0x1e60_0000_0000_0000) ≡ Toward unity nought)
    × (at 1 (home 0x1e50_0000_0000_0000) ≡ Absent)
    × (at 1 (home 0x5fe0_0000_0000_0000) ≡ Toward unity nought)
    × (at 1 (home 0x5ff0_0000_0000_0000) ≡ Toward nought nought)
unfolding book root neg eq lt add sub mul
case_m_last = (refl, refl, refl, refl)

-- no point differs: -0,0 is 0,0; a NaN differs from itself, and its direction is absent
pub case_m_none : (at 0 (0 ∷ 0 ∷ 0x8000_0000_0000_0000 ∷ 0 ∷ []) ≡ Absent)
    × (at 1 (0 ∷ 0 ∷ 0x8000_0000_0000_0000 ∷ 0 ∷ []) ≡ Absent)
    × (at 0 (0x7ff8_0000_0000_0000 ∷ 0 ∷ 0x7ff8_0000_0000_0000 ∷ 0 ∷ []) ≡ Absent)
    × (at 0 [] ≡ Absent)
unfolding book root neg eq lt add sub mul
case_m_none = (refl, refl, refl, refl)
