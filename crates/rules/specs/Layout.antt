-- 01, Input and output: numbers read as lines and ends, and chains and pairs written as numbers.
use Rattle.std.specs.Prelude.{◌+◌, ◌-◌, ◌&&◌, ◌∷◌, ◌++◌}
use Rattle.rules.specs.Library.{ℕ, suc, Bool, true, false, List, [], map, flat_map, leb, eqb, Float, nan, length, get_or, take, drop, Direction, Absent, Toward, Settings}
use Rattle.rules.specs.Lists.{one, total}
use Rattle.rules.specs.Plane.{Point, point, points, flat}
use Rattle.rules.specs.Selecting.{End, Pair}
use Rattle.rules.specs.Boxes.{box_of, stacked, box_numbers}
use Rattle.rules.specs.Chaining.{Piece, Line, chains}

-- ---- building
-- the lines that a call lends: coordinates, and for each line a coordinate count, a group and a kind
pub record Lines : Type 0 where
  pub coordinates : List ℕ
  pub counts : List ℕ
  pub groups : List ℕ
  pub kinds : List ℕ

abbrev pub lent : List ℕ → List ℕ → List ℕ → List ℕ → Lines
lent a b c d = record { coordinates = a; counts = b; groups = c; kinds = d }

-- the lines follow one another in the points
unfoldable pub lines : List Point → List ℕ → List ℕ → List ℕ → List Line
lines ps [] gs ks = []
lines ps (c ∷ cs) gs ks =
    record { points = take c ps; group = get_or gs 0 0; kind = get_or ks 0 0 } ∷ lines (drop c ps) cs (drop 1 gs) (drop 1 ks)

-- with points of w numbers each
abbrev pub lines_in : ℕ → Lines → List Line
lines_in w l = lines (points w l.coordinates) l.counts l.groups l.kinds

-- a chain of one line has source 0 and no copy
unfoldable pub copied : Piece → Bool
copied p = elim (eqb (length p.lines) 1) [ true ↦ false | false ↦ true ]

unfoldable pub copy : Piece → List Point
copy p = elim (copied p) [ true ↦ p.points | false ↦ [] ]

-- A loop has at least three points, and its first and last agree bit for bit: in x and y, whatever their extras.
unfoldable pub loop : List Point → Bool
loop ps =
    let a = get_or ps 0 (point 0 0) in
    let z = get_or ps (length ps - 1) (point 0 0) in
    leb 3 (length ps) && (eqb a.x z.x && eqb a.y z.y)

-- A piece's record: first member, member count, source, first coordinate, coordinate count. m members and c merged points stand before;
-- `counts` are the lines' own, and so a line's first coordinate is the sum of those before it.
unfoldable pub five : List ℕ → ℕ → ℕ → Piece → List ℕ
five counts m c p =
    let own = total (take (get_or p.lines 0 0) counts) in
    m ∷ length p.lines ∷ elim (copied p) [ true ↦ 1 ∷ c ∷ length p.points ∷ [] | false ↦ 0 ∷ own ∷ length p.points ∷ [] ]

-- a chain's record: those five, and 1 exactly if it is a loop
unfoldable pub six : List ℕ → ℕ → ℕ → Piece → List ℕ
six counts m c p = five counts m c p ++ (one (loop p.points) ∷ [])

-- records one after another
unfoldable pub rows : (ℕ → ℕ → Piece → List ℕ) → ℕ → ℕ → List Piece → List ℕ
rows row m c [] = []
rows row m c (p ∷ l) = row m c p ++ rows row (m + length p.lines) (c + length (copy p)) l

-- those of pieces, and those of chains
abbrev pub piece_table : List ℕ → ℕ → ℕ → List Piece → List ℕ
piece_table counts m c ps = rows (five counts) m c ps

abbrev pub table : List ℕ → ℕ → ℕ → List Piece → List ℕ
table counts m c ps = rows (six counts) m c ps

-- what is written
pub record Laid : Type 0 where
  pub number : ℕ
  pub records : List ℕ
  pub members : List ℕ
  pub marks : List ℕ
  pub listing : List ℕ
  pub merged : List ℕ
  pub boxes : List ℕ

unfoldable pub laid_out : ℕ → List ℕ → List Piece → Laid
laid_out w counts ps =
    record {
      number = length ps;
      records = table counts 0 0 ps;
      members = flat_map (λ p. p.lines) ps;
      marks = flat_map (λ p. p.marks) ps;
      listing = flat_map (λ p. p.listing) ps;
      merged = flat w (flat_map copy ps);
      boxes = box_numbers (stacked (map (λ p. box_of p.points) ps));
    }

-- of points of width w
unfoldable pub build : ℕ → Settings → Lines → Laid
build w s l = laid_out w l.counts (chains s (lines_in w l))

-- ---- pairing
-- the direction numbers of an absent end aren't looked at
unfoldable pub given : ℕ → Float → Float → Direction
given mark x y = elim (eqb mark 1) [ true ↦ Toward x y | false ↦ Absent ]

-- per end a presence mark, a direction as two numbers, and a piece number; an end is named by its place, and k is that of the first
unfoldable pub ends : ℕ → List ℕ → List Float → List ℕ → List End
ends k marks ways [] = []
ends k marks ways (p ∷ ps) =
    record { name = k; piece = p; direction = given (get_or marks 0 0) (get_or ways 0 nan) (get_or ways 1 nan) }
    ∷ ends (suc k) (drop 1 marks) (drop 2 ways) ps

-- two numbers per pair, lower index first, in the order of selection
unfoldable pub listed : List Pair → List ℕ
listed ps = flat_map (λ p. p.i ∷ p.j ∷ []) ps
