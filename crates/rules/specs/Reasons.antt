-- 02, Why wasn't this bend joined? "A call that, for two ends, gives the reason: selected, same piece, absent direction, not qualifying, or the earliest
-- selected pair that blocks them; the first of these that applies." The two ends come in either order. "Output and refusals are the plain route's, then 26."
use Rattle.std.specs.Prelude.{◌+◌, ◌*◌, ◌≡◌, ◌&&◌, ◌||◌, ◌∷◌}
use Rattle.rules.specs.Library.{ℕ, Bool, true, false, not, List, [], eqb, ltb, length, get_or, Float, Answer, Direction, Absent, Toward, Reason, Selected, SamePiece, AbsentDirection, NotQualifying, Blocked}
use Rattle.rules.specs.Lists.{any_of, first_place}
use Rattle.rules.specs.Selecting.{End, Pair, pair}
use Rattle.rules.specs.Layout.{listed}
use Rattle.rules.specs.Refusals.{LentEnds, first_of, pair_refusal_of, end_room}
use Rattle.rules.specs.Calls.{unless, answer_of, written, cleared, ends_of, pairs_of}

-- ---- a pair and two ends
-- p is the pair of the ends a and b
unfoldable pub joins : ℕ → ℕ → Pair → Bool
joins a b p = (eqb p.i a && eqb p.j b) || (eqb p.i b && eqb p.j a)

-- p has one of them
unfoldable pub touches : ℕ → ℕ → Pair → Bool
touches a b p = (eqb p.i a || eqb p.i b) || (eqb p.j a || eqb p.j b)

-- ---- the reason
unfoldable pub absent : Direction → Bool
absent Absent = true
absent (Toward x y) = false

-- the pair of a and b doesn't qualify
unfoldable pub unfit : Float → End → End → Bool
unfit limit a b = elim (pair limit a b) [ [] ↦ true | p ∷ l ↦ false ]

-- the reason of the first test that holds, and the last where none does
unfoldable pub first_reason : List (Reason × Bool) → Reason → Reason
first_reason [] last = last
first_reason (t ∷ l) last = elim t.1 [ true ↦ t.0 | false ↦ first_reason l last ]

unfoldable pub reason : Float → List Pair → End → End → Reason
reason limit selected a b =
    first_reason
    ((Selected, any_of (joins a.name b.name) selected)
    ∷ (SamePiece, eqb a.piece b.piece)
    ∷ (AbsentDirection, absent a.direction || absent b.direction)
    ∷ (NotQualifying, unfit limit a b)
    ∷ [])
    (Blocked (first_place (touches a.name b.name) selected))

-- the number of a reason
unfoldable pub reason_number : Reason → ℕ
reason_number Selected = 0
reason_number SamePiece = 1
reason_number AbsentDirection = 2
reason_number NotQualifying = 3
reason_number (Blocked p) = 4 + p

-- ---- the call
-- the end at a place of a list; beyond it there is none, and its direction is absent
abbrev pub end_of : List End → ℕ → End
end_of l e = get_or l e (record { name = 0; piece = 0; direction = Absent })

unfoldable pub reason_of : LentEnds → ℕ → ℕ → Reason
reason_of i a b = reason i.limit (pairs_of i) (end_of (ends_of i) a) (end_of (ends_of i) b)

-- an end number not below d, or the two equal
unfoldable pub no_ends : ℕ → ℕ → ℕ → Bool
no_ends d a b = not (ltb a d) || (not (ltb b d) || eqb a b)

-- the plain route's refusal, then 26
unfoldable pub why_refusal_of : LentEnds → ℕ → ℕ → ℕ
why_refusal_of i a b = unless (pair_refusal_of false i) (pair_refusal_of false i) (first_of ((26, no_ends (length i.pieces) a b) ∷ []))

pub record Why (i : LentEnds) (a b : ℕ) (r : Answer) (pairs' workspace' : List ℕ) : Type 0 where
  pub answer : r ≡ answer_of (why_refusal_of i a b) (reason_number (reason_of i a b))
  pub pairs : pairs' ≡ unless (why_refusal_of i a b) i.pairs (written (listed (pairs_of i)) i.pairs)
  pub workspace : workspace' ≡ unless (why_refusal_of i a b) i.workspace (cleared (length i.pieces * end_room) i.workspace)
