-- The places that are still possible, as marks. A mark is a set of directions; the mark j is that of the place base - j, and those from `low` to before
-- `end` are looked at.
use Rattle.std.specs.Prelude.{ℕ, ◌+◌, ◌-◌, ◌*◌, ◌/◌, ◌%◌, ◌≤◌, ◌<◌, ◌≡◌, Bool, true, false, ◌&&◌, ◌||◌, List, eqb, ltb, length, get_or}
use Rattle.rules.specs.declared.Meeting.{Meeting}
use Rattle.rules.specs.Lists.{one}
use Rattle.rules.specs.Plane.{Point}
use Rattle.point_numbers.specs.Width.{Whole}
use Rattle.check_laws.specs.Standing.{fresh_at, joint_at}

-- ---- sets of directions

-- whether a set has a direction; the set of those that are told; whether two sets share one
abbrev pub has : Bool → ℕ → Bool
has false s = eqb (s % 2) 1
has true s = eqb (s / 2) 1

abbrev pub set_of : Bool → Bool → ℕ
set_of drawn turned = one drawn + one turned * 2

unfoldable pub shared : ℕ → ℕ → Bool
shared a b = (has false a && has false b) || (has true a && has true b)

-- the directions of the line p from which the line l may be taken in the direction e
unfoldable pub open_to : Meeting → List Point → List Point → Bool → ℕ
open_to m p l e = set_of (joint_at m p false l e) (joint_at m p true l e)

-- a line by its numbers
pub record LineMarked (w : ℕ) (line : List ℕ) : Type 0 where
  pub two : 2 ≤ w
  pub whole : Whole w line
  pub filled : w ≤ length line

-- ---- marks

-- the mark j, and the one before it, where they are looked at
unfoldable pub mark_here : List ℕ → ℕ → ℕ → ℕ
mark_here marks end j = elim (ltb j end) [ true ↦ get_or marks j 0 | false ↦ 0 ]

unfoldable pub mark_before : List ℕ → ℕ → ℕ → ℕ
mark_before marks low j = elim (ltb low j) [ true ↦ get_or marks (j - 1) 0 | false ↦ 0 ]

-- a line that fits goes on from the mark before, or from the one here where its first point doesn't repeat the chain's last
unfoldable pub goes_on : Bool → ℕ → Bool → ℕ → ℕ → Bool
goes_on fit opened fresh here before = fit && (shared opened before || (fresh && shared opened here))

-- what a line makes of the mark j
module _ (chain : List Point) (base low end : ℕ) (drawn turned : ℕ) (drawnFits turnedFits : List Bool) (marks : List ℕ) where
  unfoldable pub moved : ℕ → ℕ
  unfolding goes_on mark_here mark_before
  moved j =
      set_of
      (goes_on (get_or drawnFits (end - j) false) drawn (fresh_at chain (base - j)) (mark_here marks end j) (mark_before marks low j))
      (goes_on (get_or turnedFits (end - j) false) turned (fresh_at chain (base - j)) (mark_here marks end j) (mark_before marks low j))

-- the room, and the places of the marks
pub record Movable (w : ℕ) (chain : List ℕ) (base low end : ℕ) : Type 0 where
  pub two : 2 ≤ w
  pub four : w ≤ 4
  pub whole : Whole w chain
  pub near : base ≤ 4294967296
  pub order : low ≤ end
  pub inside : end < 4096
  pub behind : end ≤ base

-- no mark from `low` to before r is there, and r is, unless it is the end
pub record TrimmedLow (marks : List ℕ) (low end r : ℕ) : Type 0 where
  pub above : low ≤ r
  pub within : r ≤ end
  pub none : (j : ℕ) → low ≤ j → j < r → get_or marks j 0 ≡ 0
  pub there : r < end → get_or marks r 0 ≡ 0 → ⊥

-- no mark from r to before `end` is there
pub record TrimmedHigh (marks : List ℕ) (low end r : ℕ) : Type 0 where
  pub above : low ≤ r
  pub within : r ≤ end
  pub none : (j : ℕ) → r ≤ j → j < end → get_or marks j 0 ≡ 0
