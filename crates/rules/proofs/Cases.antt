-- Cases A to N of 01, computed on the book: `cases` is the single checked list of those that are marked P, `others` has G, I and N, `slips` tells
-- what the cases leave open of 01's plausible slips, and `places` which coordinates are no place, and when 15 is given.
-- Written x,y there and x, y one after the other here. Marks, which 01 gives for C alone, and listings, which 02 [6] gives for H alone, are worked out by their rules.
use Prim.Native.Nat.{ℕ, ◌+◌, ◌*◌}
use mathlib.Core.Bool.{Bool, true, false, ◌&&◌}
use mathlib.Core.List.{List, [], ◌∷◌}
use lib.Dec.{T, eqb}
use lib.IntN.{pos, negsuc}
use lib.ListN.{replicate}
use lib.Ieee.{of_bits, lt, eq, le, add, sub, mul, div}
use Rattle.rules.specs.Root.{root}
use Rattle.rules.specs.Plane.{float, same_int, unity, nought}
use Rattle.rules.specs.Cell.{cell}
use Rattle.rules.specs.Library.{Settings}
use Rattle.rules.specs.Layout.{Lines, listed, lent}
use Rattle.rules.specs.Refusals.{rooms, refusal_of, pair_refusal_of, most_points}
use Rattle.rules.specs.Calls.{built_of, pairs_of}
use Rattle.rules.proofs.Computing.{book}
use Rattle.rules.proofs.Given.{
  +0,
  -0,
  +0·25,
  -0·25,
  -0·5,
  +1,
  -1,
  +1·25,
  +1·75,
  +2,
  +3·5,
  +4·5,
  not_a_number,
  +infinity,
  -infinity,
  greatest,
  +2^1023,
  -2^1023,
  every,
  Call,
  exactly,
  builds,
  same,
  ends_by,
  pairs,
  along,
  points,
  is_absent,
}

-- no lines: 0 chains
case_a : Bool
unfolding builds
case_a = builds (exactly [] []) [] [] [] [] []

-- one chain; in two groups, two
case_b : Bool
unfolding builds
case_b =
    let lines : List (List ℕ) = (+0 ∷ +0 ∷ +1 ∷ +0 ∷ []) ∷ (+1 ∷ +0 ∷ +2 ∷ +0 ∷ []) ∷ [] in
    builds (exactly (0 ∷ 0 ∷ []) lines)
    ((0 ∷ 2 ∷ 1 ∷ 0 ∷ 3 ∷ 0 ∷ []) ∷ [])
    (0 ∷ 1 ∷ [])
    (0 ∷ 0 ∷ [])
    (0 ∷ 1 ∷ [])
    (+0 ∷ +0 ∷ +1 ∷ +0 ∷ +2 ∷ +0 ∷ [])
    && builds (exactly (0 ∷ 1 ∷ []) lines)
    ((0 ∷ 1 ∷ 0 ∷ 0 ∷ 2 ∷ 0 ∷ []) ∷ (1 ∷ 1 ∷ 0 ∷ 2 ∷ 2 ∷ 0 ∷ []) ∷ [])
    (0 ∷ 1 ∷ [])
    (0 ∷ 0 ∷ [])
    (0 ∷ 1 ∷ [])
    []

-- the head is line 1's end 1
case_c : Bool
unfolding builds
case_c =
    builds (exactly (0 ∷ 0 ∷ []) ((+1 ∷ +0 ∷ +0 ∷ +0 ∷ []) ∷ (+1 ∷ +0 ∷ +2 ∷ +0 ∷ []) ∷ []))
    ((0 ∷ 2 ∷ 1 ∷ 0 ∷ 3 ∷ 0 ∷ []) ∷ [])
    (1 ∷ 0 ∷ [])
    (1 ∷ 0 ∷ [])
    (1 ∷ 0 ∷ [])
    (+2 ∷ +0 ∷ +1 ∷ +0 ∷ +0 ∷ +0 ∷ [])

-- a closed line is alone; a ring of two is one chain of four coordinates: both are loops
case_d : Bool
unfolding builds
case_d =
    builds (exactly (0 ∷ []) ((+0 ∷ +0 ∷ +1 ∷ +0 ∷ +0 ∷ +1 ∷ +0 ∷ +0 ∷ []) ∷ [])) ((0 ∷ 1 ∷ 0 ∷ 0 ∷ 4 ∷ 1 ∷ []) ∷ []) (0 ∷ []) (0 ∷ []) (0 ∷ []) []
    && builds (exactly (0 ∷ 0 ∷ []) ((+0 ∷ +0 ∷ +1 ∷ +0 ∷ []) ∷ (+1 ∷ +0 ∷ +1 ∷ +1 ∷ +0 ∷ +0 ∷ []) ∷ []))
    ((0 ∷ 2 ∷ 1 ∷ 0 ∷ 4 ∷ 1 ∷ []) ∷ [])
    (0 ∷ 1 ∷ [])
    (0 ∷ 0 ∷ [])
    (0 ∷ 1 ∷ [])
    (+0 ∷ +0 ∷ +1 ∷ +0 ∷ +1 ∷ +1 ∷ +0 ∷ +0 ∷ [])

-- three lines from one point, limit -0.5
fork : ℕ → Call
fork switch =
    record {
      groups = 0 ∷ 0 ∷ 0 ∷ [];
      lines = (-1 ∷ +0 ∷ +0 ∷ +0 ∷ []) ∷ (+0 ∷ +0 ∷ +1 ∷ +0 ∷ []) ∷ (+0 ∷ +0 ∷ +0 ∷ +1 ∷ []) ∷ [];
      tolerance = +0;
      switch = switch;
      limit = -0·5;
    }

case_e : Bool
unfolding builds fork
case_e =
    builds (fork 1)
    ((0 ∷ 2 ∷ 1 ∷ 0 ∷ 3 ∷ 0 ∷ []) ∷ (2 ∷ 1 ∷ 0 ∷ 4 ∷ 2 ∷ 0 ∷ []) ∷ [])
    (0 ∷ 1 ∷ 2 ∷ [])
    (0 ∷ 0 ∷ 0 ∷ [])
    (0 ∷ 1 ∷ 2 ∷ [])
    (-1 ∷ +0 ∷ +0 ∷ +0 ∷ +1 ∷ +0 ∷ [])
    && builds (fork 0)
    ((0 ∷ 1 ∷ 0 ∷ 0 ∷ 2 ∷ 0 ∷ []) ∷ (1 ∷ 1 ∷ 0 ∷ 2 ∷ 2 ∷ 0 ∷ []) ∷ (2 ∷ 1 ∷ 0 ∷ 4 ∷ 2 ∷ 0 ∷ []) ∷ [])
    (0 ∷ 1 ∷ 2 ∷ [])
    (0 ∷ 0 ∷ 0 ∷ [])
    (0 ∷ 1 ∷ 2 ∷ [])
    []

-- the zeros are two keys and one coordinate
case_f : Bool
unfolding builds
case_f =
    builds (exactly (0 ∷ 0 ∷ []) ((+0 ∷ +0 ∷ -0 ∷ +0 ∷ []) ∷ (-0 ∷ +0 ∷ +0 ∷ +0 ∷ []) ∷ []))
    ((0 ∷ 2 ∷ 1 ∷ 0 ∷ 1 ∷ 0 ∷ []) ∷ [])
    (0 ∷ 1 ∷ [])
    (0 ∷ 0 ∷ [])
    (0 ∷ 1 ∷ [])
    (+0 ∷ +0 ∷ [])

-- two lines, tolerance 1
near : ℕ → Call
near x =
    record {
      groups = 0 ∷ 0 ∷ [];
      lines = (+0·25 ∷ +0 ∷ +1·25 ∷ +0 ∷ []) ∷ (x ∷ +0 ∷ +3·5 ∷ +0 ∷ []) ∷ [];
      tolerance = +1;
      switch = 0;
      limit = +0;
    }

case_g : Bool
unfolding builds near
case_g =
    builds (near +1·75)
    ((0 ∷ 2 ∷ 1 ∷ 0 ∷ 4 ∷ 0 ∷ []) ∷ [])
    (0 ∷ 1 ∷ [])
    (0 ∷ 0 ∷ [])
    (0 ∷ 1 ∷ [])
    (+0·25 ∷ +0 ∷ +1·25 ∷ +0 ∷ +1·75 ∷ +0 ∷ +3·5 ∷ +0 ∷ [])
    && builds (near +2) ((0 ∷ 1 ∷ 0 ∷ 0 ∷ 2 ∷ 0 ∷ []) ∷ (1 ∷ 1 ∷ 0 ∷ 2 ∷ 2 ∷ 0 ∷ []) ∷ []) (0 ∷ 1 ∷ []) (0 ∷ 0 ∷ []) (0 ∷ 1 ∷ []) []

-- lines 1 and 2 are one piece after round one, which round two enters at end 1: the piece's members keep their order, and its listing is turned
case_h : Bool
unfolding builds
case_h =
    builds
    (record {
      groups = 0 ∷ 0 ∷ 0 ∷ [];
      lines = (+0 ∷ +0 ∷ +1·25 ∷ +0 ∷ []) ∷ (+4·5 ∷ +0 ∷ +3·5 ∷ +0 ∷ []) ∷ (+3·5 ∷ +0 ∷ +1·75 ∷ +0 ∷ []) ∷ [];
      tolerance = +1;
      switch = 0;
      limit = +0;
    })
    ((0 ∷ 3 ∷ 1 ∷ 0 ∷ 5 ∷ 0 ∷ []) ∷ [])
    (0 ∷ 1 ∷ 2 ∷ [])
    (0 ∷ 1 ∷ 1 ∷ [])
    (0 ∷ 2 ∷ 1 ∷ [])
    (+0 ∷ +0 ∷ +1·25 ∷ +0 ∷ +1·75 ∷ +0 ∷ +3·5 ∷ +0 ∷ +4·5 ∷ +0 ∷ [])

-- a lone line keeps its repeats
case_i : Bool
unfolding builds
case_i =
    builds (exactly (0 ∷ []) ((+0 ∷ +0 ∷ +0 ∷ +0 ∷ +1 ∷ +0 ∷ []) ∷ [])) ((0 ∷ 1 ∷ 0 ∷ 0 ∷ 3 ∷ 0 ∷ []) ∷ []) (0 ∷ []) (0 ∷ []) (0 ∷ []) []
    && builds (exactly (0 ∷ 0 ∷ []) ((+0 ∷ +0 ∷ +0 ∷ +0 ∷ +1 ∷ +0 ∷ []) ∷ (+1 ∷ +0 ∷ +2 ∷ +0 ∷ []) ∷ []))
    ((0 ∷ 2 ∷ 1 ∷ 0 ∷ 3 ∷ 0 ∷ []) ∷ [])
    (0 ∷ 1 ∷ [])
    (0 ∷ 0 ∷ [])
    (0 ∷ 1 ∷ [])
    (+0 ∷ +0 ∷ +1 ∷ +0 ∷ +2 ∷ +0 ∷ [])

-- ties go by i and then j
case_j : Bool
unfolding pairs
case_j = pairs (0 ∷ 1 ∷ 2 ∷ 3 ∷ []) (+1 ∷ +0 ∷ -1 ∷ +0 ∷ -1 ∷ +0 ∷ +1 ∷ +0 ∷ []) -1 (0 ∷ 1 ∷ 2 ∷ 3 ∷ [])

-- one piece's two ends are no pair
case_k : Bool
unfolding pairs
case_k = pairs (7 ∷ 7 ∷ 8 ∷ []) (+1 ∷ +0 ∷ -1 ∷ +0 ∷ +1 ∷ +0 ∷ []) -1 (1 ∷ 2 ∷ [])

-- at or below the limit
case_l : Bool
unfolding pairs
case_l =
    let pieces : List ℕ = 0 ∷ 1 ∷ 2 ∷ 3 ∷ [] in
    let directions : List ℕ = +1 ∷ +0 ∷ -1 ∷ +0 ∷ +0 ∷ +1 ∷ +1 ∷ +0 ∷ [] in
    pairs pieces directions -1 (0 ∷ 1 ∷ []) && pairs pieces directions +0 (0 ∷ 1 ∷ 2 ∷ 3 ∷ [])

-- dx is 2^-537, 2^-538, 2^511, 2^512
case_m : Bool
unfolding along points is_absent
case_m =
    points (along (negsuc 536)) unity nought
    && is_absent (along (negsuc 537))
    && points (along (pos 511)) unity nought
    && points (along (pos 512)) nought nought

case_n : Bool
unfolding book
case_n = same_int (cell (float +1) nought -0·25) (negsuc 0) && same_int (cell (float +1) nought -0) (pos 0)

-- marked P
pub marked_cases : List Bool
unfolding case_a case_b case_c case_d case_e case_f case_h case_j case_k case_l case_m
marked_cases = case_a ∷ case_b ∷ case_c ∷ case_d ∷ case_e ∷ case_f ∷ case_h ∷ case_j ∷ case_k ∷ case_l ∷ case_m ∷ []

pub cases : T (every marked_cases)
unfolding marked_cases lt eq le add sub mul div root
cases = tt

pub other_cases : List Bool
unfolding case_g case_i case_n
other_cases = case_g ∷ case_i ∷ case_n ∷ []

pub others : T (every other_cases)
unfolding other_cases lt eq sub
others = tt

-- Equal measures go by i: of (0,3) and (1,2) the first is first. A present (0,0) has measure 0 with any finite direction, and a NaN never qualifies.
slip_order : Bool
unfolding pairs
slip_order = pairs (0 ∷ 1 ∷ 2 ∷ 3 ∷ []) (+1 ∷ +0 ∷ +0 ∷ +1 ∷ +0 ∷ -1 ∷ -1 ∷ +0 ∷ []) -1 (0 ∷ 3 ∷ 1 ∷ 2 ∷ [])

slip_zero : Bool
unfolding pairs
slip_zero = pairs (0 ∷ 1 ∷ []) (+0 ∷ -0 ∷ +1 ∷ +0 ∷ []) -0 (0 ∷ 1 ∷ [])

slip_nan : Bool
unfolding book ends_by
slip_nan =
    let call = ends_by (0 ∷ 1 ∷ []) (not_a_number ∷ +0 ∷ +1 ∷ +0 ∷ []) +1 in
    eqb (pair_refusal_of false call) 0 && eqb (pair_refusal_of true call) 9 && same (listed (pairs_of call)) []

pub slip_cases : List Bool
unfolding slip_order slip_zero slip_nan
slip_cases = slip_order ∷ slip_zero ∷ slip_nan ∷ []

pub slips : T (every slip_cases)
unfolding slip_cases lt eq le add mul of_bits
slips = tt

-- Coordinates that are no place: a line of two coordinates, and one that passes through for want of a second one or by its kind. The number at the end is
-- x, and the switch's is given too.
refused_by : ℕ → ℕ → ℕ → ℕ
unfolding book
refused_by kind switch x =
    refusal_of 2 (lent (+0 ∷ +0 ∷ +1 ∷ +0 ∷ +1 ∷ x ∷ []) (2 ∷ 1 ∷ []) (0 ∷ 0 ∷ []) (0 ∷ kind ∷ []))
    (record { tolerance = float +0; origin_x = float +0; origin_y = float +0; switch = switch; limit = float +0 })
    (rooms [] [] [] [] [] [] [] [])

-- as many numbers as are beyond the scope, of one line, all of them NaN
too_many : ℕ
unfolding book
too_many =
    let numbers = most_points * 2 + 2 in
    refusal_of 2 (lent (replicate numbers not_a_number) ((most_points + 1) ∷ []) (0 ∷ []) (0 ∷ []))
    (record { tolerance = float +0; origin_x = float +0; origin_y = float +0; switch = 0; limit = float +0 })
    (rooms [] [] [] [] [] [] [] [])

place_nan : Bool
unfolding refused_by
place_nan = eqb (refused_by 0 0 not_a_number) 15 && eqb (refused_by 1 0 not_a_number) 15

place_infinity : Bool
unfolding refused_by
place_infinity = eqb (refused_by 0 0 +infinity) 15 && eqb (refused_by 1 0 -infinity) 15

-- the greatest number is a place, so that the rooms are looked at
place_greatest : Bool
unfolding refused_by
place_greatest = eqb (refused_by 0 0 greatest) 7 && eqb (refused_by 1 0 greatest) 7

-- after 3 and 5, before 6
place_order : Bool
unfolding refused_by too_many
place_order = eqb (refused_by 2 0 not_a_number) 3 && eqb too_many 5 && eqb (refused_by 0 2 not_a_number) 15 && eqb (refused_by 0 2 +1) 6

-- Differences overflow all the same: of three lines that meet the one that is left alone has a direction with a NaN, which qualifies with none. Those of
-- the others are (0, 0), whose measure is 0.
place_overflow : Bool
unfolding builds
place_overflow =
    builds
    (record {
      groups = 0 ∷ 0 ∷ 0 ∷ [];
      lines = (+2^1023 ∷ +0 ∷ -2^1023 ∷ +0 ∷ []) ∷ (+2^1023 ∷ +0 ∷ +0 ∷ +0 ∷ []) ∷ (+2^1023 ∷ +0 ∷ +2^1023 ∷ +2^1023 ∷ []) ∷ [];
      tolerance = +0;
      switch = 1;
      limit = +1;
    })
    ((0 ∷ 1 ∷ 0 ∷ 0 ∷ 2 ∷ 0 ∷ []) ∷ (1 ∷ 2 ∷ 1 ∷ 0 ∷ 3 ∷ 0 ∷ []) ∷ [])
    (0 ∷ 2 ∷ 1 ∷ [])
    (0 ∷ 1 ∷ 0 ∷ [])
    (0 ∷ 2 ∷ 1 ∷ [])
    (+2^1023 ∷ +2^1023 ∷ +2^1023 ∷ +0 ∷ +0 ∷ +0 ∷ [])

pub place_cases : List Bool
unfolding place_nan place_infinity place_greatest place_order place_overflow
place_cases = place_nan ∷ place_infinity ∷ place_greatest ∷ place_order ∷ place_overflow ∷ []

pub places : T (every place_cases)
unfolding place_cases lt eq le add sub mul div root of_bits
places = tt

-- Heights: they ride along, a NaN too, also where a line is turned, and of a repeated x, y the earlier one's remains. A number that is no type is refused
-- first of all; points of three numbers are no points of two.
abbrev heights : Lines
heights = lent (+0 ∷ +0 ∷ not_a_number ∷ +1 ∷ +0 ∷ 6 ∷ +2 ∷ +0 ∷ 8 ∷ +1 ∷ -0 ∷ 7 ∷ []) (2 ∷ 2 ∷ []) (0 ∷ 0 ∷ []) (0 ∷ 0 ∷ [])

abbrev coarsely : Settings
coarsely = record { tolerance = float +1; origin_x = float +0; origin_y = float +0; switch = 0; limit = float +0 }

abbrev refusal : ℕ → ℕ → ℕ
refusal t numbers = refusal_of t heights coarsely (rooms (replicate 12 0) (replicate 2 0) (replicate 2 0) (replicate 2 0) (replicate numbers 0) (replicate 80 0) (replicate numbers 0) (replicate 384 0))

pub extras_ride : Bool
unfolding book
extras_ride =
    let r = built_of 1002 heights coarsely in
    same r.merged (+0 ∷ +0 ∷ not_a_number ∷ +1 ∷ +0 ∷ 6 ∷ +2 ∷ +0 ∷ 8 ∷ [])
    && same r.marks (0 ∷ 1 ∷ [])
    && same (refusal 1002 12 ∷ refusal 2002 12 ∷ refusal 1002 11 ∷ refusal 2 12 ∷ refusal 3002 12 ∷ refusal 3 0 ∷ []) (0 ∷ 0 ∷ 7 ∷ 4 ∷ 4 ∷ 12 ∷ [])

pub extras_ridden : T extras_ride
unfolding extras_ride lt eq sub div
extras_ridden = tt
