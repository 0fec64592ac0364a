-- Pieces as a round's workspace holds them: a block of 8 n words for n lines has their records, from its start on, their members, from 5 n on, their marks,
-- from 6 n on, and their listing, from 7 n on. The coordinates of a piece of one line are the input's, and those of the other pieces stand in a slice of
-- copies: anywhere, of pieces that go into a round, and one after another, as the layout of 01 writes chains, of pieces that come out.
use Rattle.std.specs.Prelude.{ℕ, ◌+◌, ◌*◌, ◌≤◌, ◌<◌, ◌≡◌, length, get_or, take, drop}
use mathlib.Core.List.{List, [], flat_map}
use Rattle.std.proofs.Math.Seq.{slice}
use Rattle.rules.specs.Lists.{total}
use Rattle.rules.specs.Plane.{flat}
use Rattle.rules.specs.Chaining.{Piece, nothing}
use Rattle.rules.specs.Layout.{Lines, lent, copy, piece_table}
use Rattle.rules.specs.Pieces.{LentPieces, lent_pieces, first_member, member_count, first_point, point_count, members_at, marks_at, listing_at, named, numbers_at}
use Rattle.point_numbers.specs.Width.{AllWide}
use Rattle.rules.specs.Refusals.{piece_size, source_of}
use Rattle.chain_laws.proofs.Drawn.{Drawn}
use Rattle.chain_pieces.specs.declared.Record.{Record}
use Rattle.chain_pieces.specs.Map.{join_block, listing_block, mark_block, member_block}

abbrev pub lines_of : List Piece → List ℕ
lines_of ps = flat_map (λ p. p.lines) ps

abbrev pub marks_of : List Piece → List ℕ
marks_of ps = flat_map (λ p. p.marks) ps

abbrev pub listing_of : List Piece → List ℕ
listing_of ps = flat_map (λ p. p.listing) ps

-- ---- the numbers of a record that stands at p in w

-- the record of piece q, where the records start at `base`
abbrev pub record_of : ℕ → ℕ → ℕ
record_of base q = base + q * piece_size

-- the record that is read there
pub record Reads (w : List ℕ) (p : ℕ) (r : Record) : Type 0 where
  pub member : r.member ≡ get_or w p 0
  pub members : r.members ≡ get_or w (p + 1) 0
  pub source : r.source ≡ get_or w (p + 2) 0
  pub point : r.point ≡ get_or w (p + 3) 0
  pub points : r.points ≡ get_or w (p + 4) 0

-- the coordinates that it names, of the input or of the copies
unfoldable pub coordinates_at : ℕ → List ℕ → ℕ → List ℕ → List ℕ → List ℕ
unfolding source_of
coordinates_at width w p input copies =
    take (get_or w (p + 4) 0 * width) (drop (get_or w (p + 3) 0 * width) (source_of (get_or w (p + 2) 0) input copies))

-- it is in w, and its coordinates are in their source
pub record Recorded (width : ℕ) (w : List ℕ) (p : ℕ) (input copies : List ℕ) : Type 0 where
  pub inside : p + piece_size ≤ length w
  pub within : (get_or w (p + 3) 0 + get_or w (p + 4) 0) * width ≤ length (source_of (get_or w (p + 2) 0) input copies)

-- ---- all pieces

-- the first coordinate of a piece of one line, in the input
abbrev pub place_of : List ℕ → Piece → ℕ
place_of counts p = total (take (get_or p.lines 0 0) counts)

-- its points are the line's own
pub record Own (width : ℕ) (input counts : List ℕ) (p : Piece) : Type 0 where
  pub within : (place_of counts p + length p.points) * width ≤ length input
  pub same : take (length p.points * width) (drop (place_of counts p * width) input) ≡ flat width p.points

-- ---- pieces that go into a round

-- a block b of n lines as lent pieces, k of them, with their copies
abbrev pub block_pieces : ℕ → List ℕ → List ℕ → ℕ → LentPieces
block_pieces n b copies k = lent_pieces b (drop (n * member_block) b) (drop (n * mark_block) b) (drop (n * listing_block) b) copies k

-- record q of lent pieces names the piece p: its lines, marks and listing among n numbers each, and its points wherever they are
pub record PieceStands (width n : ℕ) (l : Lines) (ps : LentPieces) (q : ℕ) (p : Piece) : Type 0 where
  pub inside : first_member width l ps q + member_count width l ps q ≤ n
  pub member_count_lem : member_count width l ps q ≡ length p.lines
  pub point_count_lem : point_count width l ps q ≡ length p.points
  pub members : members_at width l ps q ≡ p.lines
  pub marks : marks_at width l ps q ≡ p.marks
  pub listing : listing_at width l ps q ≡ p.listing
  pub place : length p.lines ≡ 1 → first_point width l ps q ≡ place_of l.counts p
  pub within : (first_point width l ps q + point_count width l ps q) * width ≤ length (named width l ps q)
  pub numbers : numbers_at width l ps q ≡ flat width p.points

-- the pieces ps, of points of a width, stand in w, in the block at `base` for n lines, each as its record says; `counts` are the lines' own
pub record Held (width : ℕ) (w : List ℕ) (base n : ℕ) (input copies counts : List ℕ) (ps : List Piece) : Type 0 where
  pub few : length ps ≤ n
  pub listed : length (lines_of ps) ≤ n
  pub room : base + n * join_block ≤ length w
  pub stands : (q : ℕ) → q < length ps
      → PieceStands width n (lent input counts [] []) (block_pieces n (take (n * join_block) (drop base w)) copies (length ps)) q (get_or ps q nothing)
  pub drawn : (q : ℕ) → q < length ps → Drawn (get_or ps q nothing)
  pub full : (q : ℕ) → q < length ps → 0 < length (get_or ps q nothing).lines
  pub own : (q : ℕ) → q < length ps → length (get_or ps q nothing).lines ≡ 1 → Own width input counts (get_or ps q nothing)
  pub wide : (q : ℕ) → q < length ps → AllWide width (get_or ps q nothing).points

-- ---- pieces that come out of a round

-- they stand in the block one after another, and their copies one after another in the slice of copies
pub record Packed (width : ℕ) (w : List ℕ) (base n : ℕ) (input copies counts : List ℕ) (ps : List Piece) : Type 0 where
  pub few : length ps ≤ n
  pub listed : length (lines_of ps) ≤ n
  pub room : base + n * join_block ≤ length w
  pub records : slice base (base + length ps * piece_size) w ≡ piece_table counts 0 0 ps
  pub members : slice (base + n * member_block) (base + n * member_block + length (lines_of ps)) w ≡ lines_of ps
  pub marks : slice (base + n * mark_block) (base + n * mark_block + length (marks_of ps)) w ≡ marks_of ps
  pub listing : slice (base + n * listing_block) (base + n * listing_block + length (listing_of ps)) w ≡ listing_of ps
  pub drawn : (q : ℕ) → q < length ps → Drawn (get_or ps q nothing)
  pub full : (q : ℕ) → q < length ps → 0 < length (get_or ps q nothing).lines
  pub own : (q : ℕ) → q < length ps → length (get_or ps q nothing).lines ≡ 1 → Own width input counts (get_or ps q nothing)
  pub wide : (q : ℕ) → q < length ps → AllWide width (get_or ps q nothing).points
  pub copied : take (length (flat_map copy ps) * width) copies ≡ flat width (flat_map copy ps)
