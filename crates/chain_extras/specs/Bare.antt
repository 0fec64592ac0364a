-- 02, Heights and measures: points, lines and chains with their extras left out, and what is said of the chains of lines that have some.
use Rattle.std.specs.Prelude.{ℕ, ◌<◌, ◌≡◌, List, [], map, length, get_or}
use Rattle.rules.specs.Lists.{count}
use Rattle.rules.specs.Plane.{Point, point, points, flat}
use Rattle.rules.specs.Chaining.{Piece, Line}
use Rattle.rules.specs.Layout.{Lines, Laid}

-- ---- extras left out
abbrev pub bare : Point → Point
bare p = point p.x p.y

abbrev pub bare_line : Line → Line
bare_line l = record { points = map bare l.points; group = l.group; kind = l.kind }

abbrev pub bare_piece : Piece → Piece
bare_piece p = record { lines = p.lines; marks = p.marks; listing = p.listing; points = map bare p.points; group = p.group }

-- numbers of points of width w, as numbers of points of none
abbrev pub bare_numbers : ℕ → List ℕ → List ℕ
bare_numbers w l = flat 2 (map bare (points w l))

-- the lent lines of width w without their extras
abbrev pub left_out : ℕ → Lines → Lines
left_out w l = record { coordinates = bare_numbers w l.coordinates; counts = l.counts; groups = l.groups; kinds = l.kinds }

-- ---- x and y are joined as before: what is built without the extras is what is built of width w, but for the extras of the merged points
pub record Alike (w : ℕ) (without with : Laid) : Type 0 where
  pub number : without.number ≡ with.number
  pub records : without.records ≡ with.records
  pub members : without.members ≡ with.members
  pub marks : without.marks ≡ with.marks
  pub listing : without.listing ≡ with.listing
  pub merged : without.merged ≡ bare_numbers w with.merged
  pub boxes : without.boxes ≡ with.boxes

-- ---- the extras ride along
-- the points of line k, and none where there is no such line
abbrev pub own_points : List Line → ℕ → List Point
own_points ls k = (get_or ls k (record { points = []; group = 0; kind = 0 })).points

-- a point that one of these lines has, at a place, extras and all
pub record From (ls : List Line) (members : List ℕ) (p : Point) : Type 0 where
  pub line : ℕ
  pub place : ℕ
  pub member : 0 < count line members
  pub within : place < length (own_points ls line)
  pub same : p ≡ get_or (own_points ls line) place (point 0 0)
