-- Loops, computed on the book: which points are one, and that every chain's record says so, whether it is a line alone, a line that passes through, or merged.
use Rattle.std.specs.Prelude.{◌≡◌, ◌∷◌}
use mathlib.Core.Path.{refl}
use lib.Ieee.{lt, eq, sub}
use Rattle.rules.specs.Library.{ℕ, true, false, [], replicate}
use Rattle.rules.specs.Plane.{points, float}
use Rattle.rules.specs.Layout.{Lines, lent, loop}
use Rattle.rules.specs.Refusals.{rooms, refusal_of}
use Rattle.rules.specs.Calls.{built_of}
use Rattle.rules.proofs.Computing.{book}
use Rattle.rules.proofs.Given.{+0, -0, +0·25, +1, +2, not_a_number}

-- ---- points, of two numbers each

-- a closed triangle, there and back, and three equal points
pub closed : (loop (points 2 (+0 ∷ +0 ∷ +1 ∷ +0 ∷ +0 ∷ +1 ∷ +0 ∷ +0 ∷ [])) ≡ true)
    × (loop (points 2 (+0 ∷ +1 ∷ +2 ∷ +0 ∷ +0 ∷ +1 ∷ [])) ≡ true)
    × (loop (points 2 (+1 ∷ +2 ∷ +1 ∷ +2 ∷ +1 ∷ +2 ∷ [])) ≡ true)
unfolding book eq
closed = (refl, refl, refl)

-- two equal points, one, and none; ends that agree in x alone, in y alone, or by `==` alone
pub apart : (loop (points 2 (+1 ∷ +2 ∷ +1 ∷ +2 ∷ [])) ≡ false)
    × (loop (points 2 (+1 ∷ +2 ∷ [])) ≡ false)
    × (loop [] ≡ false)
    × (loop (points 2 (+0 ∷ +0 ∷ +1 ∷ +0 ∷ +0 ∷ +1 ∷ [])) ≡ false)
    × (loop (points 2 (+0 ∷ +0 ∷ +0 ∷ +1 ∷ +1 ∷ +0 ∷ [])) ≡ false)
    × (loop (points 2 (+0 ∷ +0 ∷ +1 ∷ +0 ∷ +0 ∷ +1 ∷ -0 ∷ +0 ∷ [])) ≡ false)
    × (loop (points 2 (+0 ∷ -0 ∷ +1 ∷ +0 ∷ +0 ∷ +1 ∷ +0 ∷ +0 ∷ [])) ≡ false)
unfolding book eq
apart = (refl, refl, refl, refl, refl, refl, refl)

-- extras are not looked at, neither where they differ nor where they agree
pub extras : (loop (points 3 (+0 ∷ +0 ∷ 5 ∷ +1 ∷ +0 ∷ 6 ∷ +0 ∷ +0 ∷ not_a_number ∷ [])) ≡ true)
    × (loop (points 3 (+0 ∷ +0 ∷ 5 ∷ +1 ∷ +0 ∷ 6 ∷ +2 ∷ +0 ∷ 5 ∷ [])) ≡ false)
unfolding book eq
extras = (refl, refl)

-- ---- calls

-- Of six lines the first is closed and passes through, and the second has one coordinate; the third goes there and back, and the fourth has two equal ones.
-- The fifth and the sixth close by cells only, at tolerance 1.
abbrev lines : Lines
lines =
    lent
    (+0 ∷ +0 ∷ +1 ∷ +0 ∷ +0 ∷ +0 ∷ +1 ∷ +1 ∷ +1 ∷ +0 ∷ +2 ∷ +0 ∷ +1 ∷ +0 ∷ +2 ∷ +2 ∷ +2 ∷ +2 ∷ +0 ∷ +0 ∷ +2 ∷ +0 ∷ +2 ∷ +0 ∷ +0·25 ∷ +0 ∷ [])
    (3 ∷ 1 ∷ 3 ∷ 2 ∷ 2 ∷ 2 ∷ [])
    (0 ∷ 1 ∷ 2 ∷ 3 ∷ 4 ∷ 4 ∷ [])
    (1 ∷ 0 ∷ 0 ∷ 0 ∷ 0 ∷ 0 ∷ [])

pub calls : (built_of 2 lines (record { tolerance = float +1; origin_x = float +0; origin_y = float +0; switch = 0; limit = float +0 })).records
    ≡ (0 ∷ 1 ∷ 0 ∷ 4 ∷ 3 ∷ 1 ∷ 1 ∷ 1 ∷ 0 ∷ 7 ∷ 2 ∷ 0 ∷ 2 ∷ 2 ∷ 1 ∷ 0 ∷ 3 ∷ 0 ∷ 4 ∷ 1 ∷ 0 ∷ 0 ∷ 3 ∷ 1 ∷ 5 ∷ 1 ∷ 0 ∷ 3 ∷ 1 ∷ 0 ∷ [])
unfolding book lt eq sub
calls = refl

-- six numbers of room for each line
abbrev refusal : ℕ → ℕ
refusal table =
    refusal_of 2 lines (record { tolerance = float +0; origin_x = float +0; origin_y = float +0; switch = 0; limit = float +0 })
    (rooms (replicate table 0) (replicate 6 0) (replicate 6 0) (replicate 6 0) (replicate 26 0) (replicate 112 0) (replicate 26 0) (replicate 1152 0))

pub room : (refusal 36 ≡ 0) × (refusal 35 ≡ 7)
unfolding book
room = (refl, refl)
