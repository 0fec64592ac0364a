-- Lines with heights and measures, computed on the book.
use Prim.Native.Nat.{ℕ}
use mathlib.Core.Path.{◌≡◌, refl}
use mathlib.Core.Bool.{true, false}
use mathlib.Core.List.{[], ◌∷◌}
use lib.Ieee.{lt, eq, sub, div}
use Rattle.rules.specs.declared.Settings.{Settings}
use Rattle.rules.specs.Plane.{float, points}
use Rattle.rules.specs.Layout.{Lines, lent, build}
use Rattle.rules.specs.Refusals.{any_nowhere}
use Rattle.rules.proofs.Computing.{book}
use Rattle.rules.proofs.Given.{+0, -0, +1, +2, +3·5, +4·5, not_a_number}
use Rattle.chain_extras.specs.Bare.{left_out}

-- a NaN that isn't the usual one
abbrev odd : ℕ
odd = 0xfff0000000000007

abbrev tolerant : ℕ → Settings
tolerant t = record { tolerance = float t; origin_x = float +0; origin_y = float +0; switch = 0; limit = float +0 }

-- ---- two lines of Z: from 0,0 to 1,0, and from 1,0 at another height to 2,0, whose height is a NaN
abbrev heights : Lines
heights = lent (+0 ∷ +0 ∷ +2 ∷ +1 ∷ +0 ∷ +3·5 ∷ +1 ∷ +0 ∷ +4·5 ∷ +2 ∷ +0 ∷ odd ∷ []) (2 ∷ 2 ∷ []) (0 ∷ 0 ∷ []) (0 ∷ 0 ∷ [])

-- they are one chain, the earlier height remains, and the NaN keeps its bits
pub heights_ride : ((build 3 (tolerant +0) heights).merged ≡ +0 ∷ +0 ∷ +2 ∷ +1 ∷ +0 ∷ +3·5 ∷ +2 ∷ +0 ∷ odd ∷ [])
    × ((build 3 (tolerant +0) heights).records ≡ 0 ∷ 2 ∷ 1 ∷ 0 ∷ 3 ∷ 0 ∷ [])
unfolding book lt eq
heights_ride = (refl, refl)

-- without the heights
pub heights_out : ((left_out 3 heights).coordinates ≡ +0 ∷ +0 ∷ +1 ∷ +0 ∷ +1 ∷ +0 ∷ +2 ∷ +0 ∷ [])
    × ((build 2 (tolerant +0) (left_out 3 heights)).merged ≡ +0 ∷ +0 ∷ +1 ∷ +0 ∷ +2 ∷ +0 ∷ [])
unfolding book lt eq
heights_out = (refl, refl)

-- a height is no place, and a NaN there isn't refused; a NaN as y is
pub heights_anywhere : (any_nowhere (points 3 heights.coordinates) ≡ false) × (any_nowhere (points 3 (+0 ∷ odd ∷ +0 ∷ [])) ≡ true)
unfolding book
heights_anywhere = (refl, refl)

-- ---- the second line drawn the other way, so that it is turned: the earlier in walk direction remains
abbrev turned : Lines
turned = lent (+0 ∷ +0 ∷ +2 ∷ +1 ∷ +0 ∷ odd ∷ +2 ∷ +0 ∷ +3·5 ∷ +1 ∷ +0 ∷ +4·5 ∷ []) (2 ∷ 2 ∷ []) (0 ∷ 0 ∷ []) (0 ∷ 0 ∷ [])

pub turned_rides : ((build 3 (tolerant +0) turned).merged ≡ +0 ∷ +0 ∷ +2 ∷ +1 ∷ +0 ∷ odd ∷ +2 ∷ +0 ∷ +3·5 ∷ [])
    × ((build 3 (tolerant +0) turned).marks ≡ 0 ∷ 1 ∷ [])
unfolding book lt eq
turned_rides = (refl, refl)

-- ---- heights and measures, ZM, with a tolerance: 1,0 and 1,-0 are two exact keys and one cell, and equal
abbrev both : Lines
both =
    lent (+0 ∷ +0 ∷ +2 ∷ not_a_number ∷ +1 ∷ +0 ∷ +3·5 ∷ +1 ∷ +1 ∷ -0 ∷ +4·5 ∷ +2 ∷ +2 ∷ +0 ∷ odd ∷ -0 ∷ []) (2 ∷ 2 ∷ []) (0 ∷ 0 ∷ []) (0 ∷ 0 ∷ [])

pub both_ride : ((build 4 (tolerant +1) both).merged ≡ +0 ∷ +0 ∷ +2 ∷ not_a_number ∷ +1 ∷ +0 ∷ +3·5 ∷ +1 ∷ +2 ∷ +0 ∷ odd ∷ -0 ∷ [])
    × ((build 4 (tolerant +0) both).number ≡ 2)
unfolding book lt eq sub div
both_ride = (refl, refl)
