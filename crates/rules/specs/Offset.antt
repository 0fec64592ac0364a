-- 02, [11]: a bend stated as g millimetres of offset per metre run, from 0 to 1,000; the limit that it stands for; and the calls with g in the
-- limit's place.
use Rattle.std.specs.Prelude.{◌+◌, ◌*◌, ◌/◌, ◌^◌, ◌≡◌, ◌&&◌, ◌∷◌}
use Rattle.rules.specs.Library.{ℕ, Bool, true, cond, List, [], length, ltb, eqb, Float, nan, binary64, round, to_bits, Answer, Settings}
use Rattle.rules.specs.Root.{floor_root}
use Rattle.rules.specs.Layout.{Lines, listed}
use Rattle.rules.specs.Refusals.{first_of, Rooms, LentEnds, lent_ends, refusal_with, pair_refusal_with, end_room}
use Rattle.rules.specs.Calls.{unless, answer_of, written, cleared, built_of, filled, pairs_of}

abbrev pub most_offset : ℕ
most_offset = 1000

-- ---- the limit
-- a metre run and g millimetres of offset: the square of the way, in square millimetres
abbrev pub slope : ℕ → ℕ
slope g = 1000000 + g * g

abbrev pub whole : ℕ
whole = 1000000 * 2 ^ 106

-- M, the largest whole number with M * M * (1,000,000 + g * g) at most 1,000,000 * 2 ^ 106: the root of the quotient's whole part
unfoldable pub offset_root : ℕ → ℕ
offset_root g = floor_root (whole / slope g)

-- minus M / 2 ^ 53; it is a double, so that nothing is rounded
unfoldable pub offset_limit : ℕ → Float
offset_limit g = round binary64 true (offset_root g) (2 ^ 53)

-- ---- the question: the limit's 64 bits
unfoldable pub offset_refusal_of : ℕ → ℕ
offset_refusal_of g = first_of ((22, ltb most_offset g) ∷ [])

unfoldable pub offset_asked : ℕ → Answer
offset_asked g = answer_of (offset_refusal_of g) (to_bits binary64 (offset_limit g))

-- ---- the calls with g in the limit's place
-- what stands in the limit's place; above 1,000 there is no limit, and no call that looks at it is accepted
unfoldable pub limit_for : ℕ → Float
limit_for g = cond (ltb most_offset g) nan (offset_limit g)

-- building, of lines of type t: 22 in place of the limit's part of 6. With the switch at 0 the offset isn't looked at
unfoldable pub build_offset_refusal_of : ℕ → Lines → Float → Float → ℕ → ℕ → Rooms → ℕ
build_offset_refusal_of t l ox oy switch g o =
    refusal_with ((6, ltb 1 switch) ∷ (22, eqb switch 1 && ltb most_offset g) ∷ []) ox oy t l o

-- the settings of a call with g
abbrev pub settings_for : Float → Float → Float → ℕ → ℕ → Settings
settings_for tolerance ox oy switch g = record { tolerance = tolerance; origin_x = ox; origin_y = oy; switch = switch; limit = limit_for g }

pub record BuiltOffset (t : ℕ) (l : Lines) (tolerance ox oy : Float) (switch g : ℕ) (o : Rooms) (r : Answer) (o' : Rooms) : Type 0 where
  pub answer : r ≡ answer_of (build_offset_refusal_of t l ox oy switch g o) (built_of t l (settings_for tolerance ox oy switch g)).number
  pub rooms : o' ≡ unless (build_offset_refusal_of t l ox oy switch g o) o (filled t l (settings_for tolerance ox oy switch g) o)

-- pairing, by whichever route: 22 in place of 6
unfoldable pub pair_offset_refusal_of : Bool → ℕ → LentEnds → ℕ
pair_offset_refusal_of alone g i = pair_refusal_with (22, ltb most_offset g) alone i

-- the lent ends of a call with g
abbrev pub ends_for : List ℕ → List Float → List ℕ → ℕ → List ℕ → List ℕ → LentEnds
ends_for a b c g d e = lent_ends a b c (limit_for g) d e

pub record PairedOffset (alone : Bool) (g : ℕ) (i : LentEnds) (r : Answer) (pairs' workspace' : List ℕ) : Type 0 where
  pub answer : r ≡ answer_of (pair_offset_refusal_of alone g i) (length (pairs_of i))
  pub pairs : pairs' ≡ unless (pair_offset_refusal_of alone g i) i.pairs (written (listed (pairs_of i)) i.pairs)
  pub workspace : workspace' ≡ unless (pair_offset_refusal_of alone g i) i.workspace (cleared (length i.pieces * end_room) i.workspace)
