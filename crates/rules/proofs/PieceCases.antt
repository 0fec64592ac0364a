-- 02 [9], computed on the book: lent pieces that pass 19 and such as fail one clause, the places of 19 and 7 among the refusals, and that finishing what
-- the first call leaves is building. Three lines: `0,0 1,0`, `1,0 2,0`, which round one joins, and `2,0 3.5,0`, which passes through.
use Prim.Native.Nat.{ℕ}
use mathlib.Core.Bool.{Bool, ◌&&◌}
use mathlib.Core.List.{List, [], ◌∷◌}
use lib.Dec.{T, eqb}
use lib.ListN.{replicate}
use lib.Ieee.{Float, nan, lt, eq, le, sub, div, of_bits}
use Rattle.rules.specs.Library.{Settings}
use Rattle.rules.specs.Lists.{one, any_of}
use Rattle.rules.specs.Plane.{float}
use Rattle.rules.specs.Layout.{Lines, lent, Laid, build}
use Rattle.rules.specs.Refusals.{source_of}
use Rattle.rules.specs.Pieces.{LentPieces, lent_pieces, plain_lines, differ, part_of, numbers_at, standing, stood_for, members_wrong, listing_wrong, names_differ, mixes_groups, not_finite, own_place, not_own, too_many, frame_bad, content_bad, piece_bad, lent_bad, finished_of, leaving, left_of, first_rooms, first_refusal_of, finish_rooms, finish_refusal_of}
use Rattle.rules.proofs.Computing.{book}
use Rattle.rules.proofs.Given.{+0, +0·25, +1, +2, +3·5, not_a_number, +infinity, same}

unfoldable pub the-pieces : Unit {0}
unfolding book source_of any_of plain_lines differ part_of numbers_at standing stood_for members_wrong listing_wrong names_differ mixes_groups not_finite own_place not_own too_many frame_bad content_bad piece_bad lent_bad finished_of leaving first_refusal_of finish_refusal_of
the-pieces = tt

-- ---- 19

abbrev three : List ℕ → Lines
three groups = lent (+0 ∷ +0 ∷ +1 ∷ +0 ∷ +1 ∷ +0 ∷ +2 ∷ +0 ∷ +2 ∷ +0 ∷ +3·5 ∷ +0 ∷ []) (2 ∷ 2 ∷ 2 ∷ []) groups (0 ∷ 0 ∷ 1 ∷ [])

abbrev alike : Lines
alike = three (7 ∷ 7 ∷ 7 ∷ [])

-- 1 exactly if the pieces are refused
abbrev judged : Lines → LentPieces → ℕ
judged l p = one (lent_bad 2 l p)

-- both lines as one piece, as round one leaves it
abbrev whole : List ℕ
whole = +0 ∷ +0 ∷ +1 ∷ +0 ∷ +2 ∷ +0 ∷ []

abbrev both : List ℕ
both = 0 ∷ 1 ∷ []

abbrev straight : List ℕ
straight = 0 ∷ 0 ∷ []

abbrev alone : List ℕ → LentPieces
alone record' = lent_pieces record' both straight both whole 1

abbrev joined : List ℕ
joined = 0 ∷ 2 ∷ 1 ∷ 0 ∷ 3 ∷ []

-- each line a piece
abbrev apart : List ℕ → List ℕ → List ℕ → LentPieces
apart records members listing = lent_pieces records members straight listing [] 2

unfoldable pub passing : Bool
unfolding the-pieces
passing =
    same
    (judged alike (alone joined)
    -- with numbers beyond what the records name
    ∷ judged alike (lent_pieces (0 ∷ 2 ∷ 1 ∷ 0 ∷ 3 ∷ 9 ∷ []) (0 ∷ 1 ∷ 9 ∷ []) (0 ∷ 0 ∷ 9 ∷ []) (0 ∷ 1 ∷ 9 ∷ []) (+0 ∷ +0 ∷ +1 ∷ +0 ∷ +2 ∷ +0 ∷ not_a_number ∷ []) 1)
    -- members and listing in another order, the piece elsewhere in the slices, and other coordinates
    ∷ judged alike (lent_pieces (1 ∷ 2 ∷ 1 ∷ 1 ∷ 2 ∷ []) (9 ∷ 1 ∷ 0 ∷ []) (9 ∷ 1 ∷ 0 ∷ []) (9 ∷ 0 ∷ 1 ∷ []) (not_a_number ∷ +0 ∷ +1 ∷ +0 ∷ +2 ∷ +0 ∷ []) 1)
    -- the second line first, and nothing merged
    ∷ judged alike (apart (0 ∷ 1 ∷ 0 ∷ 2 ∷ 2 ∷ 1 ∷ 1 ∷ 0 ∷ 0 ∷ 2 ∷ []) (1 ∷ 0 ∷ []) (1 ∷ 0 ∷ []))
    -- one coordinate, and as many as there are in all
    ∷ judged alike (alone (0 ∷ 2 ∷ 1 ∷ 2 ∷ 1 ∷ []))
    ∷ judged alike (lent_pieces (0 ∷ 2 ∷ 1 ∷ 0 ∷ 6 ∷ []) both straight both (replicate 12 +0) 1)
    -- no lines but one that passes through
    ∷ judged (lent (+0 ∷ +0 ∷ []) (1 ∷ []) (0 ∷ []) (0 ∷ [])) (lent_pieces [] [] [] [] [] 0)
    ∷ [])
    (replicate 7 0)

unfoldable pub failing : Bool
unfolding the-pieces
failing =
    same
    ( -- a line missing, one that passes through, one that is none, one named again
    judged alike (alone (0 ∷ 1 ∷ 0 ∷ 0 ∷ 2 ∷ []))
    ∷ judged alike (lent_pieces (0 ∷ 3 ∷ 1 ∷ 0 ∷ 3 ∷ []) (0 ∷ 1 ∷ 2 ∷ []) (0 ∷ 0 ∷ 0 ∷ []) (0 ∷ 1 ∷ 2 ∷ []) whole 1)
    ∷ judged alike (lent_pieces (0 ∷ 3 ∷ 1 ∷ 0 ∷ 3 ∷ []) (0 ∷ 1 ∷ 3 ∷ []) (0 ∷ 0 ∷ 0 ∷ []) (0 ∷ 1 ∷ 3 ∷ []) whole 1)
    ∷ judged alike (lent_pieces (0 ∷ 2 ∷ 1 ∷ 0 ∷ 3 ∷ 0 ∷ 1 ∷ 0 ∷ 0 ∷ 2 ∷ []) both straight both whole 2)
    ∷ judged alike (lent_pieces joined (0 ∷ 0 ∷ []) straight (0 ∷ 0 ∷ []) whole 1)
    -- the listing names a line again, or the lines of another piece
    ∷ judged alike (lent_pieces joined both straight (0 ∷ 0 ∷ []) whole 1)
    ∷ judged alike (apart (0 ∷ 1 ∷ 0 ∷ 0 ∷ 2 ∷ 1 ∷ 1 ∷ 0 ∷ 2 ∷ 2 ∷ []) both (1 ∷ 0 ∷ []))
    -- no line, no coordinate
    ∷ judged alike (lent_pieces (0 ∷ 2 ∷ 1 ∷ 0 ∷ 3 ∷ 2 ∷ 0 ∷ 1 ∷ 0 ∷ 1 ∷ []) both straight both whole 2)
    ∷ judged alike (alone (0 ∷ 2 ∷ 1 ∷ 0 ∷ 0 ∷ []))
    -- two groups
    ∷ judged (three (7 ∷ 8 ∷ 7 ∷ [])) (alone joined)
    -- beyond the members, the marks, the listing, the merged coordinates
    ∷ judged alike (lent_pieces joined (0 ∷ []) straight both whole 1)
    ∷ judged alike (lent_pieces joined both (0 ∷ []) both whole 1)
    ∷ judged alike (lent_pieces joined both straight (0 ∷ []) whole 1)
    ∷ judged alike (alone (0 ∷ 2 ∷ 1 ∷ 1 ∷ 3 ∷ []))
    -- coordinates that are no places
    ∷ judged alike (lent_pieces joined both straight both (+0 ∷ +0 ∷ not_a_number ∷ +0 ∷ +2 ∷ +0 ∷ []) 1)
    ∷ judged alike (lent_pieces joined both straight both (+0 ∷ +0 ∷ +1 ∷ +0 ∷ +2 ∷ +infinity ∷ []) 1)
    -- one line elsewhere in the input, or by another count, or merged; two lines in the input, or in no source
    ∷ judged alike (apart (0 ∷ 1 ∷ 0 ∷ 2 ∷ 2 ∷ 1 ∷ 1 ∷ 0 ∷ 0 ∷ 2 ∷ []) both both)
    ∷ judged alike (apart (0 ∷ 1 ∷ 0 ∷ 0 ∷ 1 ∷ 1 ∷ 1 ∷ 0 ∷ 2 ∷ 2 ∷ []) both both)
    ∷ judged alike (lent_pieces (0 ∷ 1 ∷ 1 ∷ 0 ∷ 2 ∷ 1 ∷ 1 ∷ 0 ∷ 2 ∷ 2 ∷ []) both straight both whole 2)
    ∷ judged alike (alone (0 ∷ 2 ∷ 0 ∷ 0 ∷ 3 ∷ []))
    ∷ judged alike (alone (0 ∷ 2 ∷ 2 ∷ 0 ∷ 3 ∷ []))
    -- one coordinate more than there are in all
    ∷ judged alike (lent_pieces (0 ∷ 2 ∷ 1 ∷ 0 ∷ 7 ∷ []) both straight both (replicate 14 +0) 1)
    -- a mark of 2
    ∷ judged alike (lent_pieces joined both (0 ∷ 2 ∷ []) both whole 1)
    -- a count whose records leave their slice
    ∷ judged alike (alone (0 ∷ 2 ∷ 1 ∷ 0 ∷ []))
    ∷ [])
    (replicate 24 1)

pub nineteen : T (passing && failing)
unfolding passing failing le of_bits
nineteen = tt

-- ---- first, and then finish

abbrev by : ℕ → Float → Settings
by tolerance ox = record { tolerance = float tolerance; origin_x = ox; origin_y = float +0; switch = 0; limit = nan }

abbrev first : LentPieces
first = left_of 2 alike 0 nan

abbrev laid_alike : Laid → Laid → Bool
laid_alike a b =
    eqb a.number b.number
    && same a.records b.records
    && same a.members b.members
    && same a.marks b.marks
    && same a.listing b.listing
    && same a.merged b.merged

-- round one leaves one piece, which passes; finished with no tolerance and with one it is what building makes of the lines
unfoldable pub finishing : Bool
unfolding the-pieces
finishing =
    same first.records joined
    && eqb (judged alike first) 0
    && laid_alike (finished_of 2 alike first (by +0 (float +0))) (build 2 (by +0 (float +0)) alike)
    && laid_alike (finished_of 2 alike first (by +1 (float +0·25))) (build 2 (by +1 (float +0·25)) alike)
    -- pieces that no round one leaves are finished as lent: both lines apart, the second first, which cells of 1 join
    && same (finished_of 2 alike (apart (0 ∷ 1 ∷ 0 ∷ 2 ∷ 2 ∷ 1 ∷ 1 ∷ 0 ∷ 0 ∷ 2 ∷ []) (1 ∷ 0 ∷ []) (1 ∷ 0 ∷ [])) (by +0 (float +0))).records
    (0 ∷ 1 ∷ 0 ∷ 2 ∷ 2 ∷ 0 ∷ 1 ∷ 1 ∷ 0 ∷ 0 ∷ 2 ∷ 0 ∷ 2 ∷ 1 ∷ 0 ∷ 4 ∷ 2 ∷ 0 ∷ [])
    && same (finished_of 2 alike (apart (0 ∷ 1 ∷ 0 ∷ 2 ∷ 2 ∷ 1 ∷ 1 ∷ 0 ∷ 0 ∷ 2 ∷ []) (1 ∷ 0 ∷ []) (1 ∷ 0 ∷ [])) (by +1 (float +0))).records
    (0 ∷ 2 ∷ 1 ∷ 0 ∷ 3 ∷ 0 ∷ 2 ∷ 1 ∷ 0 ∷ 4 ∷ 2 ∷ 0 ∷ [])
    -- with the marks that are lent, which count the first round's turns
    && same (finished_of 2 alike (lent_pieces joined both (1 ∷ 0 ∷ []) both whole 1) (by +0 (float +0))).marks (1 ∷ 0 ∷ 0 ∷ [])

pub finishes : T finishing
unfolding finishing lt eq le sub div of_bits
finishes = tt

-- ---- the order: 6, 17, 19, 7 for the second call; 6, 7 for the first, whose pieces have five numbers each

abbrev second : LentPieces → Float → ℕ → ℕ → ℕ
second p ox switch room =
    finish_refusal_of 2 alike p (record { tolerance = float +0; origin_x = ox; origin_y = float +0; switch = switch; limit = nan })
    (finish_rooms (replicate room 0) (replicate 3 0) (replicate 3 0) (replicate 3 0) (replicate 12 0) (replicate 88 0) (replicate 576 0))

abbrev earlier : ℕ → ℕ → ℕ
earlier switch room =
    first_refusal_of 2 alike switch nan (first_rooms (replicate room 0) (replicate 3 0) (replicate 3 0) (replicate 3 0) (replicate 12 0) (replicate 576 0))

unfoldable pub ordered : Bool
unfolding the-pieces
ordered =
    same
    (second first (float +0) 0 18
    ∷ second first (float +0) 0 17
    ∷ second (alone joined) (float +0) 0 17
    ∷ second (alone (0 ∷ 2 ∷ 1 ∷ 0 ∷ [])) (float +0) 0 17
    ∷ second (alone (0 ∷ 2 ∷ 1 ∷ 0 ∷ [])) nan 0 17
    ∷ second (alone (0 ∷ 2 ∷ 1 ∷ 0 ∷ [])) nan 1 17
    ∷ earlier 0 15
    ∷ earlier 0 14
    ∷ earlier 1 14
    ∷ [])
    (0 ∷ 7 ∷ 7 ∷ 19 ∷ 17 ∷ 6 ∷ 0 ∷ 7 ∷ 6 ∷ [])

pub orders : T ordered
unfolding ordered lt eq le of_bits
orders = tt
