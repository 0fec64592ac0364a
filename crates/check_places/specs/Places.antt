-- What is known of where a line stands in a chain, both given by numbers, w for each point.
use Rattle.std.specs.Prelude.{ℕ, suc, ◌+◌, ◌*◌, ◌≤◌, ◌<◌, ◌≡◌, Bool, true, false, ◌&&◌, List, eqb, ltb, length, take, drop, get_or, Option, Some, None, is_none}
use Rattle.std.proofs.Math.Option.{none, some}
use Rattle.std.proofs.Math.Option as math
use Rattle.rules.specs.Plane.{Point, point, points, equal}
use Rattle.rules.specs.Refusals.{most_lines}
use Rattle.point_numbers.specs.Width.{Whole}
use Rattle.chain_laws.proofs.Counts.{Each}
use Rattle.chain_travel.proofs.Values.{Number}
use Rattle.check_laws.specs.Standing.{common, laid_run, standing, fit_at}
use Rattle.check_places.specs.declared.Extent.{Extent}
use Rattle.check_places.specs.declared.Scan.{Scan}

-- a bound for all places and sizes
abbrev pub far : ℕ
far = 4294967296

-- a chain and a line of points of w numbers: the line has a point, and its points are places
pub record PlaceGround (w : ℕ) (chain line : List ℕ) : Type 0 where
  pub two : 2 ≤ w
  pub four : w ≤ 4
  pub chain_whole : Whole w chain
  pub line_whole : Whole w line
  pub filled : w ≤ length line
  pub short : length line ≤ far
  pub numbers : Each Number (points w line)

-- the point whose numbers begin at c is there, and equal to p
unfoldable pub number_stands : List ℕ → ℕ → Point → Bool
number_stands chain c p = ltb c (length chain) && equal (point (get_or chain c 0) (get_or chain (c + 1) 0)) p

-- the next point, if there is one, is there and equal to that
unfoldable pub next_stands : Option (ℕ × ℕ) → List ℕ → ℕ → Bool
next_stands None chain c = false
next_stands (Some q) chain c = number_stands chain c (point q.0 q.1)

-- the last point, if there is one, and that a point is equal to it
abbrev pub last_kept : Option (ℕ × ℕ) → math.Option Point
last_kept None = none
last_kept (Some q) = some (point q.0 q.1)

unfoldable pub met : math.Option Point → Point → Bool
met none p = false
met (some q) p = equal q p

-- no point is left that doesn't stand there
abbrev pub whole : Extent → Bool
whole r = is_none r.next

-- how many of a line's points stand at a place, whether that is all of them, and else the x and y of the first that doesn't
pub record Reached (w : ℕ) (chain line : List ℕ) (turned : Bool) (at : ℕ) (r : Extent) : Type 0 where
  pub count : r.points ≡ standing (points w chain) turned (points w line) at
  pub all : whole r ≡ eqb r.points (length (laid_run turned (points w line)))
  pub next : (q : ℕ × ℕ) → r.next ≡ Some q → (p : Point) → equal p (get_or (laid_run turned (points w line)) r.points (point 0 0)) ≡ equal p (point q.0 q.1)

-- how many of the n points at a place of the chain stand at the place i too
unfoldable pub alike_at : List Point → ℕ → ℕ → ℕ → ℕ
unfolding common
alike_at chain best n i = common equal (drop i chain) (take n (drop best chain))

pub record Stretched (w : ℕ) (chain : List ℕ) (i best n count : ℕ) : Type 0 where
  pub two : 2 ≤ w
  pub four : w ≤ 4
  pub chain_whole : Whole w chain
  pub near : i ≤ far + far
  pub short : count ≤ far
  pub inside : 0 < count → (best + count) * w ≤ length chain
  pub begun : n ≤ alike_at (points w chain) best count i

-- the best place, and what is known of the places from it on up to i
pub record Known (w : ℕ) (chain near : List ℕ) (s : Scan) (i : ℕ) : Type 0 where
  pub best_before : s.best ≤ i
  pub best_inside : 0 < s.reached.points → (s.best + s.reached.points) * w ≤ length chain
  pub best_numbers : Each Number (take s.reached.points (drop s.best (points w chain)))
  pub short : s.reached.points < far
  pub table : (d : ℕ) → 0 < d → s.best + d ≤ i → get_or near d 0 ≡ alike_at (points w chain) s.best s.reached.points (s.best + d)
  pub low_before : s.low ≤ i
  pub low_behind : s.best ≤ s.low
  pub low_best : s.low ≡ s.best → s.high ≡ s.best
  pub high_is : s.best < s.low → s.high ≡ s.low + alike_at (points w chain) s.best s.reached.points s.low

-- the place before i was looked at, and i is in the table
pub record Nearing (w : ℕ) (chain near : List ℕ) (s : Scan) (i : ℕ) : Type 0 where
  pub two : 2 ≤ w
  pub four : w ≤ 4
  pub chain_whole : Whole w chain
  pub reach : i ≤ far + far
  pub last : ℕ
  pub next : i ≡ suc last
  pub known : Known w chain near s last
  pub room : i < s.best + most_lines

-- and of the line at the place i
pub record Scanned (w : ℕ) (chain line : List ℕ) (turned : Bool) (near : List ℕ) (s : Scan) (i : ℕ) : Type 0 where
  pub known : Known w chain near s i
  pub reached : Reached w chain line turned s.best s.reached
  pub here_is : s.here ≡ standing (points w chain) turned (points w line) i
  pub here_low : s.here ≤ s.reached.points

-- a place that is read anew is the best one
pub record Anew (w : ℕ) (chain line : List ℕ) (turned : Bool) (s : Scan) (i : ℕ) : Type 0 where
  pub scanned : (near : List ℕ) → Scanned w chain line turned near s i
  pub best_is : s.best ≡ i

-- where the whole line stands among n places, and how many points it has if it stands at one of them
pub record PlacesFilled (w : ℕ) (chain line : List ℕ) (turned : Bool) (from n : ℕ) (fits' : List Bool) (r : ℕ) : Type 0 where
  pub fits : (x : ℕ) → x < n → get_or fits' x false ≡ fit_at (points w chain) turned (points w line) (from + x)
  pub size : (x : ℕ) → x < n → fit_at (points w chain) turned (points w line) (from + x) ≡ true → r ≡ length (laid_run turned (points w line))
  pub most : r ≤ length (laid_run turned (points w line))

-- the place before i was looked at, and i is in the table
pub record Ahead (w : ℕ) (chain line : List ℕ) (turned : Bool) (near : List ℕ) (s : Scan) (i : ℕ) : Type 0 where
  pub last : ℕ
  pub next : i ≡ suc last
  pub scanned : Scanned w chain line turned near s last
  pub room : i < s.best + most_lines
  pub long : length near ≡ most_lines

-- and it was: a best place that has the whole line is kept
pub record Advanced (w : ℕ) (chain line : List ℕ) (turned : Bool) (near' : List ℕ) (s s' : Scan) (i : ℕ) : Type 0 where
  pub scanned : Scanned w chain line turned near' s' i
  pub whole_kept : whole s.reached ≡ true → whole s'.reached ≡ true
  pub best_kept : s.best ≤ s'.best
  pub long : length near' ≡ most_lines
