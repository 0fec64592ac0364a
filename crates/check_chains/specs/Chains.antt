-- The places that are still possible behind a line, and how a line leads from those to the next.
use Rattle.std.specs.Prelude.{ℕ, ◌+◌, ◌-◌, ◌*◌, ◌≤◌, ◌<◌, ◌≡◌, Bool, true, not, ◌&&◌, List, map, leb, ltb, eqb, length, get_or, take, drop}
use Rattle.rules.specs.declared.Meeting.{Meeting}
use Rattle.rules.specs.Plane.{Point, points}
use Rattle.rules.specs.Refusals.{most_lines, most_points}
use Rattle.point_numbers.specs.Width.{Whole}
use Rattle.chain_laws.proofs.Counts.{Each}
use Rattle.chain_travel.proofs.Values.{Number}
use Rattle.check_laws.specs.Standing.{laid_run, size_of, fit_at, LineLeads, Begun}
use Rattle.check_marks.specs.Marks.{has}
use Rattle.check_places.specs.Places.{PlacesFilled}
use Rattle.check_chains.specs.declared.Held.{Held}

-- a part of a row, and a line's numbers by its first coordinate and its count
abbrev pub part : List ℕ → ℕ → ℕ → List ℕ
part l a b = take (b - a) (drop a l)

abbrev pub line_at : ℕ → List ℕ → List ℕ → List ℕ → ℕ → List ℕ
line_at w coordinates firsts counts y = part coordinates (get_or firsts y 0 * w) (get_or firsts y 0 * w + get_or counts y 0 * w)

-- line y has its numbers among the coordinates
pub record LineThere (w : ℕ) (coordinates firsts counts : List ℕ) (y : ℕ) : Type 0 where
  pub few : y < most_lines
  pub count_there : y < length counts
  pub inside : get_or firsts y 0 * w + get_or counts y 0 * w ≤ length coordinates
  pub short : length coordinates ≤ 262144
  pub two : 2 ≤ w

-- the place k is possible, with the last line in the direction d: its mark is looked at and has it
pub record Live (marks : List ℕ) (h : Held) (d : Bool) (k : ℕ) : Type 0 where
  pub mark : ℕ
  pub low : h.low ≤ mark
  pub high : mark < h.end
  pub place : k + mark ≡ h.base
  pub way : has d (get_or marks mark 0) ≡ true

-- behind i lines: as many marks at most, and places inside the chain
pub record Steady (marks : List ℕ) (h : Held) (i : ℕ) : Type 0 where
  pub order : h.low ≤ h.end
  pub few : h.end ≤ i
  pub near : h.base ≤ i * most_points
  pub behind : h.low < h.end → h.end ≤ h.base
  pub small : (j : ℕ) → h.low ≤ j → j < h.end → get_or marks j 0 ≤ 3

-- a chain of points of w numbers, and a line of them
pub record ChainGround (w : ℕ) (chain line : List ℕ) : Type 0 where
  pub two : 2 ≤ w
  pub four : w ≤ 4
  pub chain_whole : Whole w chain
  pub line_whole : Whole w line
  pub filled : w ≤ length line
  pub short : length line ≤ most_points * w
  pub numbers : Each Number (points w line)

-- the first line leads from the first place to those that are possible behind it
pub record FirstLineLies (chain line : List Point) (marks' : List ℕ) (h' : Held) : Type 0 where
  pub steady : Steady marks' h' 1
  pub on : (d : Bool) → fit_at chain d line 0 ≡ true → Live marks' h' d (size_of line)
  pub back : (d : Bool) (k : ℕ) → Live marks' h' d k → (k ≡ size_of line) × (fit_at chain d line 0 ≡ true)

-- the line l behind the line p leads from the possible places to the possible places
pub record Steps (m : Meeting) (chain p l : List Point) (i : ℕ) (marks : List ℕ) (h : Held) (marks' : List ℕ) (h' : Held) : Type 0 where
  pub steady : Steady marks' h' (i + 1)
  pub on : (d e : Bool) (k k' : ℕ) → Live marks h d k → LineLeads m chain p l d e k k' → Live marks' h' e k'
  pub back : (e : Bool) (k' : ℕ) → Live marks' h' e k' → (d : Bool) × (k : ℕ) × Live marks h d k × LineLeads m chain p l d e k k'

-- the lines that a chain lists: they are lines of the coordinates, with a point, and their points are places
pub record LinesListed (w : ℕ) (coordinates firsts counts listed chain : List ℕ) : Type 0 where
  pub two : 2 ≤ w
  pub four : w ≤ 4
  pub some_line : 0 < length listed
  pub few : length listed ≤ most_lines
  pub short : length coordinates ≤ most_points * w
  pub chain_whole : Whole w chain
  pub below : (i : ℕ) → i < length listed → get_or listed i 0 < most_lines
  pub count_there : (i : ℕ) → i < length listed → get_or listed i 0 < length counts
  pub a_point : (i : ℕ) → i < length listed → 0 < get_or counts (get_or listed i 0) 0
  pub inside : (i : ℕ) → i < length listed → get_or firsts (get_or listed i 0) 0 * w + get_or counts (get_or listed i 0) 0 * w ≤ length coordinates
  pub numbers : (i : ℕ) → i < length listed → Each Number (points w (line_at w coordinates firsts counts (get_or listed i 0)))

-- their points, one after another
abbrev pub line_points : ℕ → List ℕ → List ℕ → List ℕ → ℕ → List Point
line_points w coordinates firsts counts y = points w (line_at w coordinates firsts counts y)

-- r tells whether the lines lead from the first place of the chain to its end
pub record ChainDecided (m : Meeting) (w : ℕ) (coordinates firsts counts listed chain : List ℕ) (r : Bool) : Type 0 where
  pub sound : r ≡ true
      → Begun m (points w chain) (line_points w coordinates firsts counts (get_or listed 0 0)) (map (line_points w coordinates firsts counts) (drop 1 listed))
  pub complete : Begun m (points w chain) (line_points w coordinates firsts counts (get_or listed 0 0)) (map (line_points w coordinates firsts counts) (drop 1 listed))
      → r ≡ true

-- whether the mark of the place `have` is there
unfoldable pub ended_at : List ℕ → Held → ℕ → Bool
ended_at marks h have =
    leb have h.base && (leb h.low (h.base - have) && (ltb (h.base - have) h.end && not (eqb (get_or marks (h.base - have) 0) 0)))

-- where a line fits in a direction in which it may be taken
pub record FilledOpen (opened w : ℕ) (chain line : List ℕ) (turned : Bool) (from n : ℕ) (fits' : List Bool) (r : ℕ) : Type 0 where
  pub told : (opened ≡ 0 → ⊥) → PlacesFilled w chain line turned from n fits' r
  pub most : r ≤ length (laid_run turned (points w line))

-- what is known where a line goes on behind another
pub record Advancing (w : ℕ) (chain p l marks : List ℕ) (h : Held) : Type 0 where
  pub before : ChainGround w chain p
  pub after : ChainGround w chain l
  pub passed : ℕ
  pub few : passed < most_lines
  pub steady : Steady marks h passed
  pub live : h.low < h.end
