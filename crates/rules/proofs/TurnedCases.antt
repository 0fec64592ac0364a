-- 02 [6], computed on the book: `drawings` tells how often a line is turned and in which order lines are passed, where two rounds join, and `listing_room`
-- when the listing's room is too short.
use Prim.Native.Nat.{ℕ}
use mathlib.Core.Bool.{Bool, ◌&&◌}
use mathlib.Core.List.{List, [], ◌∷◌}
use lib.Dec.{T, eqb}
use lib.ListN.{replicate}
use lib.Ieee.{lt, eq, sub, div}
use Rattle.rules.specs.Plane.{float}
use Rattle.rules.specs.Layout.{lent}
use Rattle.rules.specs.Refusals.{rooms, refusal_of}
use Rattle.rules.proofs.Computing.{book}
use Rattle.rules.proofs.Given.{+0, +1, +1·25, +1·75, +2, +3·5, +4·5, every, Call, builds}

-- lines of one group, tolerance 1
abbrev coarsely : List ℕ → List (List ℕ) → Call
coarsely groups lines = record { groups = groups; lines = lines; tolerance = +1; switch = 0; limit = +0 }

-- Round one turns line 2 and leaves a piece that runs from 4.5 to 1.75; round two turns that. So line 2 is turned twice and line 1 once, and they are
-- passed in the order 1 2. Members and marks stand as round one left them, 2 1.
turned_twice : Bool
unfolding builds
turned_twice =
    builds (coarsely (0 ∷ 0 ∷ 0 ∷ []) ((+0 ∷ +0 ∷ +1·25 ∷ +0 ∷ []) ∷ (+3·5 ∷ +0 ∷ +1·75 ∷ +0 ∷ []) ∷ (+3·5 ∷ +0 ∷ +4·5 ∷ +0 ∷ []) ∷ []))
    ((0 ∷ 3 ∷ 1 ∷ 0 ∷ 5 ∷ 0 ∷ []) ∷ [])
    (0 ∷ 2 ∷ 1 ∷ [])
    (0 ∷ 0 ∷ 1 ∷ [])
    (0 ∷ 1 ∷ 2 ∷ [])
    (+0 ∷ +0 ∷ +1·25 ∷ +0 ∷ +1·75 ∷ +0 ∷ +3·5 ∷ +0 ∷ +4·5 ∷ +0 ∷ [])

-- round two leaves the piece of case C alone, whose marks and listing stay
left_alone : Bool
unfolding builds
left_alone =
    builds (coarsely (0 ∷ 0 ∷ []) ((+1 ∷ +0 ∷ +0 ∷ +0 ∷ []) ∷ (+1 ∷ +0 ∷ +2 ∷ +0 ∷ []) ∷ []))
    ((0 ∷ 2 ∷ 1 ∷ 0 ∷ 3 ∷ 0 ∷ []) ∷ [])
    (1 ∷ 0 ∷ [])
    (1 ∷ 0 ∷ [])
    (1 ∷ 0 ∷ [])
    (+2 ∷ +0 ∷ +1 ∷ +0 ∷ +0 ∷ +0 ∷ [])

pub drawing_cases : List Bool
unfolding turned_twice left_alone
drawing_cases = turned_twice ∷ left_alone ∷ []

pub drawings : T (every drawing_cases)
unfolding drawing_cases lt eq sub div
drawings = tt

-- one line, and a room of m numbers for the listing
refused_by : ℕ → ℕ
unfolding book
refused_by m =
    refusal_of 2 (lent (+0 ∷ +0 ∷ +1 ∷ +0 ∷ []) (2 ∷ []) (0 ∷ []) (0 ∷ []))
    (record { tolerance = float +0; origin_x = float +0; origin_y = float +0; switch = 0; limit = float +0 })
    (rooms (replicate 6 0) (0 ∷ []) (0 ∷ []) (replicate m 0) (replicate 4 0) (replicate 72 0) (replicate 4 0) (replicate 192 0))

pub listing_asked : Bool
unfolding refused_by
listing_asked = eqb (refused_by 1) 0 && eqb (refused_by 0) 7

pub listing_room : T listing_asked
unfolding listing_asked lt eq sub div
listing_room = tt
