-- Lent pieces judged one after another: what is asked of a call's lines, what is found of one piece, and what is known between two. `seen` is the table in
-- which lines are noted, and `seen'` what it is at return.
use Rattle.std.specs.Prelude.{ℕ, ◌+◌, ◌*◌, ◌-◌, ◌≤◌, ◌<◌, ◌≡◌, Bool, true, false, eqb, length, get_or, set, take, drop}
use mathlib.Core.List.{List, flat_map}
use Rattle.rules.specs.Lists.{count, upto, total}
use Rattle.rules.specs.Plane.{points}
use Rattle.rules.specs.Layout.{Lines}
use Rattle.rules.specs.Refusals.{any_nowhere, source_of, most_lines, most_points, piece_size}
use Rattle.rules.specs.Pieces.{LentPieces, plain_lines, members_at, listing_at}
use Rattle.build_lines.proofs.Passing.{plain_at}
use Rattle.lent_laws.specs.Passes.{PieceFine, Passes}
use Rattle.lent_noting.specs.Noting.{Placed, PlacesTabled, Fit}
use Rattle.lent_judging.specs.declared.Record.{Record}

-- what the refusals of its lines leave of a call
pub record LinesSized (w : ℕ) (l : Lines) : Type 0 where
  pub two : 2 ≤ w
  pub four : w ≤ 4
  pub tabled : PlacesTabled l.counts l.groups l.kinds
  pub adds : total l.counts * w ≡ length l.coordinates
  pub small : total l.counts ≤ most_points
  pub places : any_nowhere (points w l.coordinates) ≡ false

-- ---- a record's numbers against the slices that it names

-- the record of piece q
abbrev pub record_of : List ℕ → ℕ → Record
record_of records q =
    record {
      first = get_or records (q * piece_size) 0;
      lines = get_or records (q * piece_size + 1) 0;
      source = get_or records (q * piece_size + 2) 0;
      point = get_or records (q * piece_size + 3) 0;
      points = get_or records (q * piece_size + 4) 0;
    }

pub record Framed (w : ℕ) (l : Lines) (p : LentPieces) (r : Record) : Type 0 where
  pub some_line : 0 < r.lines
  pub some_point : 0 < r.points
  pub in_members : r.first + r.lines ≤ length p.members
  pub in_marks : r.first + r.lines ≤ length p.marks
  pub in_listing : r.first + r.lines ≤ length p.listing
  pub in_source : (r.point + r.points) * w ≤ length (source_of r.source l.coordinates p.merged)

pub record FrameJudged (w : ℕ) (l : Lines) (p : LentPieces) (r : Record) (bad : Bool) : Type 0 where
  pub framed : bad ≡ false → Framed w l p r
  pub unframed : bad ≡ true → Framed w l p r → ⊥

-- ---- a piece of one line

-- the lines of a call with the place of each
pub record LinesPlaced (places : List ℕ) (l : Lines) : Type 0 where
  pub tabled : PlacesTabled l.counts l.groups l.kinds
  pub places_long : length places ≡ most_lines
  pub placed : Placed places l.counts

-- the line that record r names, of which `seen` tells whether it was met
pub record OneFit (seen : List ℕ) (l : Lines) (p : LentPieces) (r : Record) : Type 0 where
  pub low : get_or p.members r.first 0 < length l.counts
  pub unmet : get_or seen (get_or p.members r.first 0) 0 ≡ 0
  pub plain : plain_at l.counts l.kinds (get_or p.members r.first 0) ≡ true
  pub same : get_or p.listing r.first 0 ≡ get_or p.members r.first 0
  pub drawn : get_or p.marks r.first 0 ≤ 1
  pub input : r.source ≡ 0
  pub first : r.point ≡ total (take (get_or p.members r.first 0) l.counts)
  pub count : r.points ≡ get_or l.counts (get_or p.members r.first 0) 0

pub record OneJudged (seen' seen : List ℕ) (l : Lines) (p : LentPieces) (r : Record) (bad : Bool) : Type 0 where
  pub fit : bad ≡ false → OneFit seen l p r
  pub noted : bad ≡ false → seen' ≡ set seen (get_or p.members r.first 0) 2
  pub unfit : bad ≡ true → OneFit seen l p r → ⊥

-- ---- a piece of more lines

-- no line is half noted
pub record Even (seen : List ℕ) : Type 0 where
  pub long : length seen ≡ most_lines
  pub even : (y : ℕ) → y < most_lines → get_or seen y 0 ≡ 1 → ⊥

pub record LinesLent (seen counts groups kinds lines marks listing : List ℕ) : Type 0 where
  pub even : Even seen
  pub tabled : PlacesTabled counts groups kinds
  pub some_line : 0 < length lines
  pub marks_long : length marks ≡ length lines
  pub listing_long : length listing ≡ length lines

-- the part of a slice that a record names, from its first to its last
abbrev pub part : Record → List ℕ → List ℕ
part r s = take (r.first + r.lines - r.first) (drop r.first s)

-- the first line's group is that of all, and the listing names the same lines
pub record LinesFit (seen counts groups kinds lines marks listing : List ℕ) : Type 0 where
  pub fit : Fit seen counts groups kinds (get_or groups (get_or lines 0 0) 0) lines marks
  pub names : (y : ℕ) → count y lines ≡ count y listing

pub record LinesJudged (seen' seen counts groups kinds lines marks listing : List ℕ) (r : Bool) : Type 0 where
  pub fit : r ≡ false → LinesFit seen counts groups kinds lines marks listing
  pub long : r ≡ false → length seen' ≡ most_lines
  pub noted : r ≡ false → (y : ℕ) → y < most_lines → get_or seen' y 0 ≡ get_or seen y 0 + count y lines * 2
  pub unfit : r ≡ true → LinesFit seen counts groups kinds lines marks listing → ⊥

-- not merged coordinates, or one of them no place
unfoldable pub points_bad : ℕ → Record → List ℕ → Bool
points_bad w r merged =
    elim (eqb r.source 1) [ true ↦ any_nowhere (points w (take (r.points * w) (drop (r.point * w) merged))) | false ↦ true ]

-- ---- between two pieces

-- the first q pass, and have each line that they name once, which is plain; each of these has the mark 2, and no other has one
pub record PointsCounted (w : ℕ) (l : Lines) (p : LentPieces) (seen : List ℕ) (q : ℕ) : Type 0 where
  pub long : length seen ≡ most_lines
  pub marked : (y : ℕ) → y < most_lines → get_or seen y 0 ≡ count y (flat_map (members_at w l p) (upto q)) * 2
  pub within : (y : ℕ) → count y (flat_map (members_at w l p) (upto q)) ≤ count y (plain_lines w l)
  pub same : (y : ℕ) → count y (flat_map (listing_at w l p) (upto q)) ≡ count y (flat_map (members_at w l p) (upto q))
  pub fine : (i : ℕ) → i < q → PieceFine w l p i

pub record Judgeable (w : ℕ) (l : Lines) (p : LentPieces) (seen places : List ℕ) (q : ℕ) : Type 0 where
  pub sized : LinesSized w l
  pub inside : p.number * piece_size ≤ length p.records
  pub below : q < p.number
  pub places_long : length places ≡ most_lines
  pub placed : Placed places l.counts
  pub counted : PointsCounted w l p seen q

pub record PieceJudged (w : ℕ) (l : Lines) (p : LentPieces) (seen' : List ℕ) (q : ℕ) (r : Bool) : Type 0 where
  pub refused : r ≡ true → Passes w l p → ⊥
  pub passed : r ≡ false → PointsCounted w l p seen' (q + 1)
