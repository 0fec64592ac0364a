-- What is asked of the lines of a call and of a chain of them, by their numbers.
use Rattle.std.specs.Prelude.{ℕ, ◌*◌, ◌≤◌, ◌<◌, ◌≡◌, false, List, map, length, get_or, take}
use Rattle.rules.specs.Lists.{total}
use Rattle.rules.specs.Plane.{points}
use Rattle.rules.specs.Chaining.{Line}
use Rattle.rules.specs.Layout.{lent, lines_in}
use Rattle.rules.specs.Refusals.{any_nowhere, most_lines, most_points}
use Rattle.rules.specs.Check.{no_line}
use Rattle.point_numbers.specs.Width.{Whole}
use Rattle.check_lines.specs.Lines.{Below}

-- the lines of a call that no refusal of its lines meets, of points of w numbers
pub record Lined (w : ℕ) (coordinates counts groups kinds : List ℕ) : Type 0 where
  pub two : 2 ≤ w
  pub four : w ≤ 4
  pub few : length counts ≤ most_lines
  pub groups_long : length groups ≡ length counts
  pub kinds_long : length kinds ≡ length counts
  pub adds : total counts * w ≡ length coordinates
  pub small : total counts ≤ most_points
  pub places : any_nowhere (points w coordinates) ≡ false

-- with the first coordinate of each
pub record LinesTabled (w : ℕ) (coordinates firsts counts groups kinds : List ℕ) : Type 0 where
  pub lined : Lined w coordinates counts groups kinds
  pub firsts_are : (y : ℕ) → y < length counts → get_or firsts y 0 ≡ total (take y counts)

-- a chain lists lines of the call, as many at most as there can be, and has whole points
pub record ChainLent (w : ℕ) (counts listed chain : List ℕ) : Type 0 where
  pub below : Below (length counts) listed
  pub few : length listed ≤ most_lines
  pub whole : Whole w chain

-- the lines that it lists
abbrev pub chosen : ℕ → List ℕ → List ℕ → List ℕ → List ℕ → List ℕ → List Line
chosen w coordinates counts groups kinds listed = map (λ y. get_or (lines_in w (lent coordinates counts groups kinds)) y no_line) listed
