-- The reasons of a few bends, computed on the book: each of the five, in either order of the ends, and refusal 26 on both sides of its edges.
use Rattle.std.specs.Prelude.{◌≡◌, ◌∷◌}
use mathlib.Core.Path.{refl}
use lib.Ieee.{add, mul, le}
use Rattle.rules.specs.Library.{ℕ, List, [], map}
use Rattle.rules.specs.Lists.{any_of, first_place}
use Rattle.rules.specs.Refusals.{LentEnds}
use Rattle.rules.specs.Calls.{unless}
use Rattle.rules.specs.Reasons.{joins, touches, absent, unfit, first_reason, reason, reason_number, reason_of, no_ends, why_refusal_of}
use Rattle.rules.proofs.Computing.{book}
use Rattle.rules.proofs.Given.{ends_by, +0, +1, -1}

-- everything that is run through
unfoldable reasoning : Unit {0}
unfolding add mul le book ends_by any_of first_place joins touches absent unfit first_reason reason reason_number reason_of no_ends why_refusal_of unless
reasoning = tt

abbrev asked : LentEnds → List (ℕ × ℕ) → List ℕ
asked i l = map (λ q. reason_number (reason_of i q.0 q.1)) l

-- 01's case K: two ends of piece 7 and one of piece 8
abbrev case_k : LentEnds
case_k = ends_by (7 ∷ 7 ∷ 8 ∷ []) (+1 ∷ +0 ∷ -1 ∷ +0 ∷ +1 ∷ +0 ∷ []) -1

-- 01's case L under limit 0: the pairs are 0 1 and 2 3
abbrev case_l : LentEnds
case_l = ends_by (0 ∷ 1 ∷ 2 ∷ 3 ∷ []) (+1 ∷ +0 ∷ -1 ∷ +0 ∷ +0 ∷ +1 ∷ +1 ∷ +0 ∷ []) +0

-- end 1 is absent, and its numbers aren't looked at; ends 1 and 2 are of one piece
abbrev some_absent : LentEnds
some_absent = record {
  present = 1 ∷ 0 ∷ 1 ∷ 1 ∷ [];
  directions = case_l.directions;
  pieces = 0 ∷ 1 ∷ 1 ∷ 3 ∷ [];
  limit = case_l.limit;
  pairs = case_l.pairs;
  workspace = case_l.workspace;
}

pub reasons_told :
    -- selected, and so from either end; two ends of one piece; a measure above the limit
    (asked case_k ((1, 2) ∷ (2, 1) ∷ (0, 1) ∷ (0, 2) ∷ []) ≡ 0 ∷ 0 ∷ 1 ∷ 3 ∷ [])
    -- two selected pairs share an end with 1 and 3, and the earlier one is told
    × (asked case_l ((0, 1) ∷ (3, 2) ∷ (1, 3) ∷ (3, 1) ∷ (0, 2) ∷ (0, 3) ∷ []) ≡ 0 ∷ 0 ∷ 4 ∷ 4 ∷ 4 ∷ 3 ∷ [])
    -- an absent direction; of one piece, which comes first
    × (asked some_absent ((0, 1) ∷ (1, 3) ∷ (1, 2) ∷ (0, 2) ∷ (3, 2) ∷ []) ≡ 2 ∷ 2 ∷ 1 ∷ 0 ∷ 4 ∷ [])
unfolding reasoning
reasons_told = (refl, refl, refl)

pub why_refusals :
    -- two ends, an end number that isn't below d, and the two equal
    (map (λ (q : ℕ × ℕ). why_refusal_of case_k q.0 q.1) ((0, 2) ∷ (2, 0) ∷ (0, 3) ∷ (3, 0) ∷ (1, 1) ∷ (3, 3) ∷ []) ≡ 0 ∷ 0 ∷ 26 ∷ 26 ∷ 26 ∷ 26 ∷ [])
    -- a piece three times comes before it
    × (why_refusal_of (ends_by (7 ∷ 7 ∷ 7 ∷ []) (+1 ∷ +0 ∷ -1 ∷ +0 ∷ +1 ∷ +0 ∷ []) -1) 0 3 ≡ 8)
    -- with no ends any two numbers are refused
    × (why_refusal_of (ends_by [] [] -1) 0 1 ≡ 26)
unfolding reasoning
why_refusals = (refl, refl, refl)
