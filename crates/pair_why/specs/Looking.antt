-- The tests of a reason over what is lent: pairs as two numbers each, and ends as marks, directions and piece numbers.
use Rattle.std.specs.Prelude.{ℕ, suc, ◌+◌, ◌*◌, ◌/◌, ◌≤◌, ◌<◌, ◌≡◌, Bool, true, false, ◌&&◌, ◌||◌, List, [], ◌∷◌, T, eqb, ltb, Float, length, get_or}
use Rattle.std.specs.Float.{nan, binary64}
use Rattle.std.specs.Float.Ieee.{fits}
use Rattle.rules.specs.Answers.{Answer}
use Rattle.rules.specs.Answers.{Direction}
use Rattle.rules.specs.Selecting.{select}
use Rattle.rules.specs.Layout.{given, ends, listed}
use Rattle.rules.specs.Refusals.{LentEnds, most_ends}
use Rattle.rules.specs.Calls.{Paired}
use Rattle.rules.specs.declared.Reason.{Reason}
use Rattle.rules.specs.Reasons.{reason, end_of, no_ends}

-- one of the ends x and y is a or b
abbrev pub meets_at : ℕ → ℕ → ℕ → ℕ → Bool
meets_at a b x y = (eqb x a || eqb x b) || (eqb y a || eqb y b)

-- the place of the first of the listed pairs that has a or b
unfoldable pub first_meeting : ℕ → ℕ → List ℕ → ℕ
first_meeting a b [] = 0
first_meeting a b (x ∷ []) = 0
first_meeting a b (x ∷ y ∷ l) = elim (meets_at a b x y) [ true ↦ 0 | false ↦ suc (first_meeting a b l) ]

-- there is a pair p, and it is that of a and b
abbrev pub joins_at : ℕ → ℕ → ℕ → List ℕ → Bool
joins_at a b p l =
    let x = get_or l (p * 2) 0 in
    let y = get_or l (p * 2 + 1) 0 in
    ltb p (length l / 2) && ((eqb x a && eqb y b) || (eqb x b && eqb y a))

-- the direction that is lent for end e
abbrev pub way_at : List ℕ → List Float → ℕ → Direction
way_at present directions e = given (get_or present e 0) (get_or directions (e * 2) nan) (get_or directions (e * 2 + 1) nan)

-- end e has a mark and two numbers
pub record MarkedEnd (present : List ℕ) (directions : List Float) (e : ℕ) : Type 0 where
  pub few : e < most_ends
  pub marked : e < length present
  pub directed : e * 2 + 1 < length directions

-- two of the lent ends, and the pairs that are selected of them
pub record Questioned (present : List ℕ) (directions : List Float) (pieces : List ℕ) (limit : Float) (words : List ℕ) (a b : ℕ) : Type 0 where
  pub few : length pieces ≤ most_ends
  pub marked : length present ≡ length pieces
  pub directed : length directions ≡ length pieces * 2
  pub first : a < length pieces
  pub second : b < length pieces
  pub short : length words ≤ length pieces
  pub words_are : words ≡ listed (select limit (ends 0 present directions pieces))

unfoldable pub reason_here : List ℕ → List Float → List ℕ → Float → ℕ → ℕ → Reason
unfolding reason
reason_here present directions pieces limit a b =
    let l = ends 0 present directions pieces in
    reason limit (select limit l) (end_of l a) (end_of l b)

-- the plain route has been called, for two ends
pub record Called (i : LentEnds) (a b : ℕ) (r : Answer) (pairs' workspace' : List ℕ) : Type 0 where
  pub two_ends : no_ends (length i.pieces) a b ≡ false
  pub fitting : T (fits binary64 i.limit)
  pub paired : Paired false i r pairs' workspace'
