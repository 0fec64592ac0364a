-- Origins, computed on the book: cells from a corner on, chains that they join or keep apart, and the place of 17 among the refusals.
use Prim.Native.Nat.{ℕ}
use mathlib.Core.Bool.{Bool, true, false, ◌&&◌}
use mathlib.Core.List.{[], ◌∷◌}
use lib.Dec.{T, eqb}
use lib.IntN.{pos, negsuc}
use lib.ListN.{replicate}
use lib.Ieee.{Float, nan, inf, of_bits, lt, eq, le, sub, div}
use Rattle.rules.specs.Plane.{float, same_int}
use Rattle.rules.specs.Cell.{cell}
use Rattle.rules.specs.Library.{Settings}
use Rattle.rules.specs.Layout.{Lines, lent}
use Rattle.rules.specs.Refusals.{rooms, refusal_of}
use Rattle.rules.specs.Calls.{built_of}
use Rattle.rules.proofs.Computing.{book}
use Rattle.rules.proofs.Given.{+0, -0, +0·25, -0·25, +1, +1·25, +2, +3·5, -1, +2^1023, -2^1023, greatest, same}

-- ---- cells

-- (3.5 - 1) / 2 is 1.25, where 3.5 / 2 - 1 is 0.75; (-0.25 - 1) / 2 is -0.625; from 0 of either sign on a cell is as it was
unfoldable pub cells_from : Bool
unfolding cell
cells_from =
    same_int (cell (float +2) (float +1) +3·5) (pos 1)
    && same_int (cell (float +2) (float +1) -0·25) (negsuc 0)
    && same_int (cell (float +1) (float +0) -0·25) (negsuc 0)
    && same_int (cell (float +1) (float -0) -0·25) (negsuc 0)
    && same_int (cell (float +1) (float +0) -0) (pos 0)
    && same_int (cell (float +1) (float -0) -0) (pos 0)

-- a difference that overflows is in the last cell; by an infinite tolerance it is no number, and in cell 0
unfoldable pub cells_far : Bool
unfolding cell
cells_far =
    same_int (cell (float +1) (float -2^1023) +2^1023) (pos 9223372036854775807)
    && same_int (cell (float +1) (float +2^1023) -2^1023) (negsuc 9223372036854775807)
    && same_int (cell (inf false) (float -2^1023) +2^1023) (pos 0)

pub cells : T (cells_from && cells_far)
unfolding cells_from cells_far book sub div of_bits
cells = tt

-- ---- chains

abbrev from : Float → Float → Float → Settings
from tolerance ox oy = record { tolerance = tolerance; origin_x = ox; origin_y = oy; switch = 0; limit = float +0 }

-- `0.25,0 1.25,0` and `2,0 3.5,0`, as in case G: from 0 on they stay apart, and from 0.25 on 1.25 and 2 are in one cell
abbrev apart : Lines
apart = lent (+0·25 ∷ +0 ∷ +1·25 ∷ +0 ∷ +2 ∷ +0 ∷ +3·5 ∷ +0 ∷ []) (2 ∷ 2 ∷ []) (0 ∷ 0 ∷ []) (0 ∷ 0 ∷ [])

-- two lines that meet in one place
abbrev meeting : Lines
meeting = lent (+0 ∷ +0 ∷ +1 ∷ +0 ∷ +1 ∷ +0 ∷ +2 ∷ +0 ∷ []) (2 ∷ 2 ∷ []) (0 ∷ 0 ∷ []) (0 ∷ 0 ∷ [])

abbrev number : Lines → Settings → ℕ
number l s = (built_of 2 l s).number

unfoldable pub chains_from : Bool
unfolding book
chains_from =
    -- each axis has its own part of the origin
    eqb (number apart (from (float +1) (float +0) (float +0))) 2
    && eqb (number apart (from (float +1) (float +0·25) (float +0))) 1
    && eqb (number apart (from (float +1) (float +0) (float +0·25))) 2
    -- exact keys have no origin
    && eqb (number meeting (from (float +0) (float +2^1023) (float +2^1023))) 1
    && eqb (number apart (from (float +0) (float +0·25) (float +0))) 2

pub chains : T chains_from
unfolding chains_from lt eq sub div of_bits
chains = tt

-- ---- 17: with any tolerance, with the switch at 0, for no lines; after 6, before 7

abbrev refused : Lines → Settings → ℕ
refused l s = refusal_of 2 l s (rooms [] [] [] [] [] (replicate 64 0) [] [])

abbrev with_limit : ℕ → Float → Float → Float → Settings
with_limit switch limit ox oy = record { tolerance = float +0; origin_x = ox; origin_y = oy; switch = switch; limit = limit }

abbrev none : Lines
none = lent [] [] [] []

unfoldable pub origin_refused : Bool
unfolding book
origin_refused =
    same
    (refused meeting (from (float +1) nan (float +0))
    ∷ refused meeting (from (float +1) (float +0) nan)
    ∷ refused meeting (from nan (inf false) (float +0))
    ∷ refused meeting (from (float +0) (float +0) (inf true))
    ∷ refused none (from (float +0) nan (float +0))
    ∷ refused none (from (float +0) (float greatest) (float -1))
    ∷ refused meeting (from (float +0) (float greatest) (float -1))
    ∷ refused meeting (with_limit 2 (float +0) nan nan)
    ∷ refused meeting (with_limit 1 nan nan nan)
    ∷ refused meeting (with_limit 0 nan nan nan)
    ∷ [])
    (17 ∷ 17 ∷ 17 ∷ 17 ∷ 17 ∷ 0 ∷ 7 ∷ 6 ∷ 6 ∷ 17 ∷ [])

pub refusals : T origin_refused
unfolding origin_refused lt eq le of_bits
refusals = tt
