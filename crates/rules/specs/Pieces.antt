-- 02 [9], One exact round, many zooms: pieces that a call lends, what they stand for, refusal 19 clause by clause, and what the two calls determine.
-- A record of a piece has 01's five numbers: first member, member count, source, first coordinate, coordinate count.
use Rattle.std.specs.Prelude.{◌+◌, ◌*◌, ◌≡◌, ◌&&◌, ◌||◌, ◌∷◌, ◌++◌}
use Rattle.rules.specs.Library.{ℕ, Bool, true, false, not, List, [], map, flat_map, length, get_or, take, drop, eqb, ltb, Float, Answer, Settings}
use Rattle.rules.specs.Lists.{count, upto, total, any_of}
use Rattle.rules.specs.Plane.{nought, points, flat}
use Rattle.rules.specs.Chaining.{Piece, pieces, round_one, round_two}
use Rattle.rules.specs.Boxes.{box_room}
use Rattle.rules.specs.Layout.{Lines, lines_in, copy, piece_table, Laid, laid_out}
use Rattle.rules.specs.Types.{width_of}
use Rattle.rules.specs.Refusals.{first_of, any_above, any_nowhere, origin_bad, short, source_of, line_tests, setting_tests, piece_size, record_size, line_room}
use Rattle.rules.specs.Calls.{unless, answer_of, written, cleared}

-- the pieces as they are lent: their records, members, marks, listing and merged coordinates, and how many they are
pub record LentPieces : Type 0 where
  pub records : List ℕ
  pub members : List ℕ
  pub marks : List ℕ
  pub listing : List ℕ
  pub merged : List ℕ
  pub number : ℕ

abbrev pub lent_pieces : List ℕ → List ℕ → List ℕ → List ℕ → List ℕ → ℕ → LentPieces
lent_pieces a b c d e k = record { records = a; members = b; marks = c; listing = d; merged = e; number = k }

-- the lines that don't pass through, by position
unfoldable pub plain_lines : ℕ → Lines → List ℕ
plain_lines w l = flat_map (λ p. p.lines) (pieces true 0 (lines_in w l))

-- a line stands in one of two lists more often than in the other
unfoldable pub differ : List ℕ → List ℕ → Bool
differ a b = any_of (λ y. not (eqb (count y a) (count y b))) (a ++ b)

module _ (w : ℕ) (l : Lines) (p : LentPieces) where
  -- ---- what record q names
  abbrev pub first_member : ℕ → ℕ
  first_member q = get_or p.records (q * piece_size) 0

  abbrev pub member_count : ℕ → ℕ
  member_count q = get_or p.records (q * piece_size + 1) 0

  abbrev pub source : ℕ → ℕ
  source q = get_or p.records (q * piece_size + 2) 0

  abbrev pub first_point : ℕ → ℕ
  first_point q = get_or p.records (q * piece_size + 3) 0

  abbrev pub point_count : ℕ → ℕ
  point_count q = get_or p.records (q * piece_size + 4) 0

  -- the part of the members, of the marks or of the listing
  unfoldable pub part_of : List ℕ → ℕ → List ℕ
  part_of s q = take (member_count q) (drop (first_member q) s)

  abbrev pub members_at : ℕ → List ℕ
  members_at q = part_of p.members q

  abbrev pub marks_at : ℕ → List ℕ
  marks_at q = part_of p.marks q

  abbrev pub listing_at : ℕ → List ℕ
  listing_at q = part_of p.listing q

  abbrev pub named : ℕ → List ℕ
  named q = source_of (source q) l.coordinates p.merged

  unfoldable pub numbers_at : ℕ → List ℕ
  numbers_at q = take (point_count q * w) (drop (first_point q * w) (named q))

  -- the first of its lines
  abbrev pub leader : ℕ → ℕ
  leader q = get_or (members_at q) 0 0

  -- ---- what it stands for
  unfoldable pub standing : ℕ → Piece
  standing q =
      record {
        lines = members_at q;
        marks = marks_at q;
        listing = listing_at q;
        points = points w (numbers_at q);
        group = get_or l.groups (leader q) 0;
      }

  unfoldable pub stood_for : List Piece
  stood_for = map standing (upto p.number)

  -- ---- refusal 19: each clause a test that holds where the pieces are refused
  -- "the members, or the listing of [6], each taken piece by piece as the records name them, aren't the lines that don't pass through, each once"
  unfoldable pub members_wrong : Bool
  members_wrong = differ (flat_map members_at (upto p.number)) (plain_lines w l)

  unfoldable pub listing_wrong : Bool
  listing_wrong = differ (flat_map listing_at (upto p.number)) (plain_lines w l)

  -- "the two name different lines in a piece"
  unfoldable pub names_differ : ℕ → Bool
  names_differ q = differ (members_at q) (listing_at q)

  -- "a piece has no line or coordinate"
  abbrev pub no_line : ℕ → Bool
  no_line q = eqb (member_count q) 0

  abbrev pub no_point : ℕ → Bool
  no_point q = eqb (point_count q) 0

  -- "mixes groups": it has a line of another group than its first
  unfoldable pub mixes_groups : ℕ → Bool
  mixes_groups q = any_of (λ y. not (eqb (get_or l.groups y 0) (get_or l.groups (leader q) 0))) (members_at q)

  -- "leaves its slices": by its members, marks and listing, or by its coordinates
  abbrev pub members_leave : ℕ → Bool
  members_leave q =
      let end = first_member q + member_count q in
      short p.members end || (short p.marks end || short p.listing end)

  abbrev pub points_leave : ℕ → Bool
  points_leave q = short (named q) ((first_point q + point_count q) * w)

  -- "has a coordinate that isn't finite"
  unfoldable pub not_finite : ℕ → Bool
  not_finite q = any_nowhere (points w (numbers_at q))

  -- "isn't the line's own in source 0 (one line) or in source 1 (more)"
  unfoldable pub own_place : ℕ → Bool
  own_place q =
      eqb (source q) 0 && (eqb (first_point q) (total (take (leader q) l.counts)) && eqb (point_count q) (get_or l.counts (leader q) 0))

  unfoldable pub not_own : ℕ → Bool
  not_own q = elim (eqb (member_count q) 1) [ true ↦ not (own_place q) | false ↦ not (eqb (source q) 1) ]

  -- "all have more than c together"
  unfoldable pub too_many : Bool
  too_many = ltb (total l.counts) (total (map point_count (upto p.number)))

  -- "a mark is above 1"
  abbrev pub mark_above : ℕ → Bool
  mark_above q = any_above 1 (marks_at q)

  -- the clauses of one piece: those of its record's numbers, and those of what it names
  unfoldable pub frame_bad : ℕ → Bool
  frame_bad q = no_line q || (no_point q || (members_leave q || points_leave q))

  unfoldable pub content_bad : ℕ → Bool
  content_bad q = mixes_groups q || (not_own q || mark_above q)

  unfoldable pub piece_bad : ℕ → Bool
  piece_bad q = frame_bad q || (names_differ q || (content_bad q || not_finite q))

  -- all: a count whose records leave their slice is refused too
  unfoldable pub lent_bad : Bool
  lent_bad = short p.records (p.number * piece_size) || (any_of piece_bad (upto p.number) || (members_wrong || (listing_wrong || too_many)))

  -- ---- "What passes 19 is finished by 01's round two as lent": the chains, and their layout
  unfoldable pub finished_of : Settings → Laid
  finished_of s = laid_out w l.counts (round_two s stood_for ++ pieces false 0 (lines_in w l))

-- ---- the first call, of lines of type t: it leaves the pieces of round one
-- pieces laid out as they are lent
unfoldable pub leaving : ℕ → List ℕ → List Piece → LentPieces
leaving w counts ps =
    record {
      records = piece_table counts 0 0 ps;
      members = flat_map (λ p. p.lines) ps;
      marks = flat_map (λ p. p.marks) ps;
      listing = flat_map (λ p. p.listing) ps;
      merged = flat w (flat_map copy ps);
      number = length ps;
    }

-- round one has a switch and a limit, and nothing of round two
abbrev pub exactly : ℕ → Float → Settings
exactly switch limit = record { tolerance = nought; origin_x = nought; origin_y = nought; switch = switch; limit = limit }

abbrev pub left_of : ℕ → Lines → ℕ → Float → LentPieces
left_of t l switch limit = leaving (width_of t) l.counts (round_one (exactly switch limit) (pieces true 0 (lines_in (width_of t) l)))

pub record FirstRooms : Type 0 where
  pub pieces : List ℕ
  pub members : List ℕ
  pub marks : List ℕ
  pub listing : List ℕ
  pub merged : List ℕ
  pub workspace : List ℕ

abbrev pub first_rooms : List ℕ → List ℕ → List ℕ → List ℕ → List ℕ → List ℕ → FirstRooms
first_rooms a b c d e f = record { pieces = a; members = b; marks = c; listing = d; merged = e; workspace = f }

unfoldable pub first_refusal_of : ℕ → Lines → ℕ → Float → FirstRooms → ℕ
first_refusal_of t l switch limit o =
    let n = length l.counts in
    let rest = short o.listing n || (short o.merged (length l.coordinates) || short o.workspace (n * line_room)) in
    first_of
    (line_tests t l
    ++ (setting_tests switch limit
    ++ ((7, short o.pieces (n * piece_size) || (short o.members n || (short o.marks n || rest)))
    ∷ [])))

unfoldable pub left_in : ℕ → Lines → ℕ → Float → FirstRooms → FirstRooms
left_in t l switch limit o =
    let p = left_of t l switch limit in
    record {
      pieces = written p.records o.pieces;
      members = written p.members o.members;
      marks = written p.marks o.marks;
      listing = written p.listing o.listing;
      merged = written p.merged o.merged;
      workspace = cleared (length l.counts * line_room) o.workspace;
    }

pub record FirstLeft (t : ℕ) (l : Lines) (switch : ℕ) (limit : Float) (o : FirstRooms) (r : Answer) (o' : FirstRooms) : Type 0 where
  pub answer : r ≡ answer_of (first_refusal_of t l switch limit o) (left_of t l switch limit).number
  pub rooms : o' ≡ unless (first_refusal_of t l switch limit o) o (left_in t l switch limit o)

-- ---- the second call, of lines of type t: it finishes the pieces that are lent, and alters none of them
pub record FinishRooms : Type 0 where
  pub table : List ℕ
  pub members : List ℕ
  pub marks : List ℕ
  pub listing : List ℕ
  pub merged : List ℕ
  pub boxes : List ℕ
  pub workspace : List ℕ

abbrev pub finish_rooms : List ℕ → List ℕ → List ℕ → List ℕ → List ℕ → List ℕ → List ℕ → FinishRooms
finish_rooms a b c d e f g = record { table = a; members = b; marks = c; listing = d; merged = e; boxes = f; workspace = g }

unfoldable pub finish_refusal_of : ℕ → Lines → LentPieces → Settings → FinishRooms → ℕ
finish_refusal_of t l p s o =
    let n = length l.counts in
    let rest = short o.merged (length l.coordinates) || (short o.boxes (box_room n) || short o.workspace (n * line_room)) in
    first_of
    (line_tests t l
    ++ (setting_tests s.switch s.limit
    ++ ((17, origin_bad s.origin_x s.origin_y)
    ∷ (19, lent_bad (width_of t) l p)
    ∷ (7, short o.table (n * record_size) || (short o.members n || (short o.marks n || (short o.listing n || rest))))
    ∷ [])))

unfoldable pub finished_in : ℕ → Lines → LentPieces → Settings → FinishRooms → FinishRooms
finished_in t l p s o =
    let a = finished_of (width_of t) l p s in
    record {
      table = written a.records o.table;
      members = written a.members o.members;
      marks = written a.marks o.marks;
      listing = written a.listing o.listing;
      merged = written a.merged o.merged;
      boxes = written a.boxes o.boxes;
      workspace = cleared (length l.counts * line_room) o.workspace;
    }

pub record Finished (t : ℕ) (l : Lines) (p : LentPieces) (s : Settings) (o : FinishRooms) (r : Answer) (o' : FinishRooms) : Type 0 where
  pub answer : r ≡ answer_of (finish_refusal_of t l p s o) (finished_of (width_of t) l p s).number
  pub rooms : o' ≡ unless (finish_refusal_of t l p s o) o (finished_in t l p s o)
