-- Boxes, their levels and window questions, computed on the book: both sides of each edge.
use Rattle.std.specs.Prelude.{◌*◌, ◌≡◌, ◌∷◌, ◌++◌}
use mathlib.Core.Path.{refl}
use lib.Ieee.{lt, le, eq, of_bits}
use Rattle.rules.specs.Library.{ℕ, true, false, List, [], map, length, replicate, Settings, Box, Window}
use Rattle.rules.specs.Lists.{from, upto, keep}
use Rattle.rules.specs.Plane.{Point, point, float}
use Rattle.rules.specs.Boxes.{lesser, greater, union, spot, grown, box_of, in_pairs, levels, stacked, four, box_numbers, box_at}
use Rattle.rules.specs.Layout.{Lines, lent}
use Rattle.rules.specs.Refusals.{first_of, rooms, refusal_of}
use Rattle.rules.specs.Calls.{built_of}
use Rattle.rules.specs.Windows.{overlap, meets, shown, shown_up, in_window, boxes_as, window_bad, window_refusal_of}
use Rattle.rules.proofs.Computing.{book}
use Rattle.rules.proofs.Given.{+0, -0, +1, -1, +1·25, +2, +3·5, +4·5, not_a_number, +infinity, -infinity}

-- everything that is run through
unfoldable boxing : Unit {0}
unfolding lt le eq of_bits from upto keep lesser greater union grown box_of in_pairs levels stacked box_numbers box_at first_of overlap meets shown shown_up in_window window_bad window_refusal_of
boxing = tt

-- ---- the boxes

-- of 0 and -0 the earlier one's bits, as least and as greatest
pub zeros : box_of (point +0 -0 ∷ point -0 +0 ∷ []) ≡ record { least_x = +0; least_y = -0; greatest_x = +0; greatest_y = -0 }
unfolding boxing
zeros = refl

-- and so of two boxes; in a longer chain; and what rides along is not looked at
pub more_zeros :
    (union (spot (point -0 +0)) (spot (point +0 -0)) ≡ spot (point -0 +0))
    × (box_of (point -1 -1 ∷ point -0 +0 ∷ point +0 -0 ∷ []) ≡ record { least_x = -1; least_y = -1; greatest_x = -0; greatest_y = +0 })
    × (box_of (record { x = +1; y = +2; extras = not_a_number ∷ -infinity ∷ [] } ∷ []) ≡ spot (point +1 +2))
unfolding boxing
more_zeros = (refl, refl, refl)

-- chains without coordinates, with one, and with more
abbrev three : List (List Point)
three = (point +1 +1 ∷ point +2 +1 ∷ []) ∷ [] ∷ (point +0 +0 ∷ []) ∷ []

abbrev boxes_of : List (List Point) → List Box
boxes_of l = stacked (map box_of l)

-- three boxes, two of which the second is the last one alone, and one for all
pub laid :
    (box_numbers (boxes_of three)
    ≡ +1 ∷ +1 ∷ +2 ∷ +1 ∷ +infinity ∷ +infinity ∷ -infinity ∷ -infinity ∷ +0 ∷ +0 ∷ +0 ∷ +0
    ∷ +1 ∷ +1 ∷ +2 ∷ +1 ∷ +0 ∷ +0 ∷ +0 ∷ +0
    ∷ +0 ∷ +0 ∷ +2 ∷ +1 ∷ [])
    × (map (λ (k : ℕ). length (boxes_of (replicate k []))) (0 ∷ 1 ∷ 2 ∷ 3 ∷ 4 ∷ 5 ∷ 8 ∷ 9 ∷ []) ≡ 0 ∷ 1 ∷ 3 ∷ 6 ∷ 7 ∷ 11 ∷ 15 ∷ 20 ∷ [])
unfolding boxing
laid = (refl, refl)

-- ---- the window

abbrev window : ℕ → ℕ → ℕ → ℕ → Window
window a b c d = record { least_x = float a; least_y = float b; greatest_x = float c; greatest_y = float d }

abbrev ask : List (List Point) → Window → List ℕ
ask l w = in_window w (box_numbers (boxes_of l)) (length l)

pub windows :
    -- touching is meeting: at a corner, at an edge, and a window of one point; the chain without coordinates is never found
    (ask three (window +1 +1 +2 +2) ≡ 0 ∷ [])
    × (ask three (window -1 -1 +0 +0) ≡ 2 ∷ [])
    × (ask three (window -0 -0 +1 +1) ≡ 0 ∷ 2 ∷ [])
    × (ask three (window +1·25 +1 +1·25 +1) ≡ 0 ∷ [])
    -- beside the chains, between them, and around all
    × (ask three (window +3·5 +0 +4·5 +1) ≡ [])
    × (ask three (window +0 +1·25 +2 +2) ≡ [])
    × (ask three (window -infinity -infinity +infinity +infinity) ≡ 0 ∷ 2 ∷ [])
unfolding boxing
windows = (refl, refl, refl, refl, refl, refl, refl)

abbrev box : ℕ → ℕ → ℕ → ℕ → Box
box a b c d = record { least_x = a; least_y = b; greatest_x = c; greatest_y = d }

-- a NaN in any number, and a least above its greatest, meet no window; infinities are numbers
pub meeting :
    map (meets (window -infinity -infinity +infinity +infinity))
    (box +0 +0 +0 +0 ∷ box not_a_number +0 +0 +0 ∷ box +0 not_a_number +0 +0 ∷ box +0 +0 not_a_number +0 ∷ box +0 +0 +0 not_a_number
    ∷ box +1 +0 +0 +0 ∷ box +0 +1 +0 +0 ∷ box -infinity +0 +infinity +0 ∷ [])
    ≡ true ∷ false ∷ false ∷ false ∷ false ∷ false ∷ false ∷ true ∷ []
unfolding boxing
meeting = refl

-- two chains whose boxes meet the window, below a box that doesn't; and that box not wholly lent
abbrev below : List ℕ → List ℕ
below top = four (box +0 +0 +1 +1) ++ (four (box +0 +0 +1 +1) ++ top)

pub above_decides :
    (in_window (window +0 +0 +1 +1) (below (four (box +0 +0 +1 +1))) 2 ≡ 0 ∷ 1 ∷ [])
    × (in_window (window +0 +0 +1 +1) (below (four (box +2 +2 +2 +2))) 2 ≡ [])
    × (in_window (window +0 +0 +1 +1) (below (four (box not_a_number +0 +1 +1))) 2 ≡ [])
    × (in_window (window +0 +0 +1 +1) (below (+2 ∷ +2 ∷ +2 ∷ [])) 2 ≡ 0 ∷ 1 ∷ [])
unfolding boxing
above_decides = (refl, refl, refl, refl)

-- ---- the refusals

abbrev lending : ℕ → ℕ → Window → ℕ → ℕ
lending boxes k w found = window_refusal_of (boxes_as (replicate boxes 0) k w (replicate found 0))

pub window_refusals :
    -- a window of one point, and one without bounds; a NaN in any bound, and a lower bound above its upper one
    (map (λ (w : Window). lending 64 0 w 0)
    (window +1 +1 +1 +1 ∷ window -infinity -infinity +infinity +infinity ∷ window not_a_number +0 +1 +1 ∷ window +0 not_a_number +1 +1
    ∷ window +0 +0 not_a_number +1 ∷ window +0 +0 +1 not_a_number ∷ window +1 +0 +0 +1 ∷ window +0 +1 +1 +0 ∷ [])
    ≡ 0 ∷ 0 ∷ 18 ∷ 18 ∷ 18 ∷ 18 ∷ 18 ∷ 18 ∷ [])
    -- 64 numbers for no chains, and 8 more for each; a number for each chain's name; 18 comes first
    × (lending 63 0 (window +0 +0 +1 +1) 0 ≡ 7)
    × (lending 80 2 (window +0 +0 +1 +1) 2 ≡ 0)
    × (lending 79 2 (window +0 +0 +1 +1) 2 ≡ 7)
    × (lending 80 2 (window +0 +0 +1 +1) 1 ≡ 7)
    × (lending 0 2 (window +1 +0 +0 +1) 0 ≡ 18)
unfolding boxing
window_refusals = (refl, refl, refl, refl, refl, refl)

-- ---- building

-- two lines that are joined, and one that passes through, in whose x a -0 comes before a 0
abbrev building : Lines
building = lent (+0 ∷ +0 ∷ +1 ∷ +2 ∷ +1 ∷ +2 ∷ +2 ∷ +1 ∷ -0 ∷ -1 ∷ +0 ∷ -1 ∷ []) (2 ∷ 2 ∷ 2 ∷ []) (0 ∷ 0 ∷ 0 ∷ []) (0 ∷ 0 ∷ 1 ∷ [])

abbrev strictly : Settings
strictly = record { tolerance = float +0; origin_x = float +0; origin_y = float +0; switch = 0; limit = float +0 }

-- the chains' boxes in their order, and the one for all
pub built_boxes : (built_of 2 building strictly).boxes ≡ +0 ∷ +0 ∷ +2 ∷ +2 ∷ -0 ∷ -1 ∷ -0 ∷ -1 ∷ +0 ∷ -1 ∷ +2 ∷ +2 ∷ []
unfolding boxing book
built_boxes = refl

-- 64 numbers and 8 more for each line, and 64 for no lines
abbrev boxed : Lines → ℕ → ℕ
boxed l boxes =
    let n = length l.counts in
    refusal_of 2 l strictly
    (rooms (replicate (n * 6) 0) (replicate n 0) (replicate n 0) (replicate n 0) (replicate (n * 4) 0) (replicate boxes 0) (replicate (n * 4) 0) (replicate (n * 192) 0))

pub box_rooms : map (boxed building) (88 ∷ 87 ∷ []) ++ map (boxed (lent [] [] [] [])) (64 ∷ 63 ∷ []) ≡ 0 ∷ 7 ∷ 0 ∷ 7 ∷ []
unfolding boxing book
box_rooms = refl
