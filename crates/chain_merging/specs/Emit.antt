-- From walks to the pieces that come out of a round. The workspace w holds the pieces ps that went in, in the block at `old`, and the entries of the
-- walks ws; the pieces that come out go into the block at its front. What the records below call rule, counts, ps and ws is known to the caller alone.
use Rattle.std.specs.Prelude.{ℕ, ◌+◌, ◌*◌, ◌%◌, ◌≤◌, ◌<◌, ◌≡◌, cond, eqb, length, get_or, take, drop}
use mathlib.Core.List.{List, [], map, flat_map, flatten, reverse}
use Rattle.std.proofs.Math.Seq.{slice}
use Rattle.rules.specs.Lists.{total}
use Rattle.rules.specs.Plane.{flat}
use Rattle.rules.specs.Walking.{piece_of}
use Rattle.rules.specs.Chaining.{Piece, Rule, piece_at, merge}
use Rattle.rules.specs.Layout.{copy, five, piece_table}
use Rattle.rules.specs.Refusals.{piece_size}
use Rattle.rules.specs.Calls.{written}
use Rattle.chain_laws.proofs.Drawn.{Low}
use Rattle.chain_pieces.specs.Held.{lines_of, Held, Packed}
use Rattle.point_slices.specs.Holds.{HoldsFrom}
use Rattle.chain_pieces.specs.Map.{join_block, listing_block, mark_block, member_block}

-- the points of the pieces that are entered, counted
abbrev pub points_in : Rule → List Piece → List ℕ → ℕ
points_in rule ps es = total (map (λ e. length (piece_at rule ps e).points) es)

-- ---- one walk

-- its entries stand from `from` to `to`, and each enters a piece
pub record Entered (width : ℕ) (w : List ℕ) (old from to : ℕ) (input spare : List ℕ) : Type 0 where
  pub n : ℕ
  pub rule : Rule
  pub counts : List ℕ
  pub ps : List Piece
  pub held : Held width w old n input spare counts ps
  pub two : 2 ≤ width
  pub some : from < to
  pub inside : to ≤ length w
  pub below : (k : ℕ) → from ≤ k → k < to → piece_of (get_or w k 0) < length ps
  pub listed : length (merge rule ps (slice from to w)).lines ≤ n

-- the same where the coordinates are not asked for
pub record Counted (w : List ℕ) (old from to : ℕ) : Type 0 where
  pub width : ℕ
  pub input : List ℕ
  pub spare : List ℕ
  pub entered : Entered width w old from to input spare

-- and its points fit into `merged` from `at` on
pub record Mergeable (width : ℕ) (w : List ℕ) (old from to : ℕ) (input spare merged : List ℕ) (at : ℕ) : Type 0 where
  pub entered : Entered width w old from to input spare
  pub fits : at + points_in entered.rule entered.ps (slice from to w) * width ≤ length merged

-- the piece of a walk
abbrev pub joined_of : {width : ℕ} {w input spare : List ℕ} {old from to : ℕ} → Entered width w old from to input spare → Piece
joined_of {w = w} {from = from} {to} y = merge y.rule y.ps (slice from to w)

-- its record goes to the front of w, at `at`; c points stand in `merged` already, and it has b members
pub record Emittable (width : ℕ) (w : List ℕ) (old from to : ℕ) (input spare merged : List ℕ) (at b c : ℕ) : Type 0 where
  pub laying : Mergeable width w old from to input spare merged (c * width)
  pub front : at + piece_size ≤ old
  pub members : b ≡ length (joined_of laying.entered).lines

-- what is left of it: m members stand before its own
pub record Emitted (width : ℕ) (w' w : List ℕ) (merged' merged counts : List ℕ) (p : Piece) (at m c r : ℕ) : Type 0 where
  pub count : r ≡ c + length (copy p)
  pub row : HoldsFrom w' w at piece_size (five counts m c p)
  pub copied : HoldsFrom merged' merged (c * width) (length (copy p) * width) (flat width (copy p))

-- ---- the lines of one piece: members, marks and listing, each in its block

-- marks of lines that are turned once more where the side is 1
abbrev pub turned_by : ℕ → List ℕ → List ℕ
turned_by side marks = map (λ mark. (mark + side) % 2) marks

-- a listing in the order in which its lines are passed from that side on
abbrev pub passed_by : ℕ → List ℕ → List ℕ
passed_by side listing = cond (eqb side 0) listing (reverse listing)

pub record Turnable (w : List ℕ) (from at count side : ℕ) : Type 0 where
  pub before : at + count ≤ from
  pub inside : from + count ≤ length w
  pub one : side ≤ 1
  pub low : Low 1 (slice from (from + count) w)

-- the lines of a piece stand so far on as `from` says in each block, and go so far on as `at` says in those at the front
pub record Listable (w : List ℕ) (n from at count side : ℕ) : Type 0 where
  pub fits : at + count ≤ n
  pub beyond : n * join_block ≤ from
  pub inside : from + n * listing_block + count ≤ length w
  pub one : side ≤ 1
  pub low : Low 1 (slice (from + n * mark_block) (from + n * mark_block + count) w)

-- the members are copied, then the marks are turned, and then the lines are listed as they are passed
pub record Members (w' w : List ℕ) (n from at count side : ℕ) : Type 0 where
  pub copied : List ℕ
  pub marked : List ℕ
  pub members : HoldsFrom copied w (at + n * member_block) count (slice (from + n * member_block) (from + n * member_block + count) w)
  pub marks : HoldsFrom marked copied (at + n * mark_block) count (turned_by side (slice (from + n * mark_block) (from + n * mark_block + count) w))
  pub listing : HoldsFrom w' marked (at + n * listing_block) count (passed_by side (slice (from + n * listing_block) (from + n * listing_block + count) w))

-- ---- the lines of all walks, whose m entries stand one after another

pub record PiecesListable (w : List ℕ) (n old entries m : ℕ) : Type 0 where
  pub width : ℕ
  pub rule : Rule
  pub counts : List ℕ
  pub ps : List Piece
  pub input : List ℕ
  pub copies : List ℕ
  pub held : Held width w old n input copies counts ps
  pub front : n * join_block ≤ old
  pub beyond : n * join_block ≤ entries
  pub inside : entries + m ≤ length w
  pub below : (k : ℕ) → k < m → piece_of (get_or w (entries + k) 0) < length ps
  pub fits : length (merge rule ps (slice entries (entries + m) w)).lines ≤ n

-- p has the lines of all that is entered
pub record Listed (w' w : List ℕ) (n : ℕ) (p : Piece) : Type 0 where
  pub size : length w' ≡ length w
  pub front : take (n * member_block) w' ≡ take (n * member_block) w
  pub members : slice (n * member_block) (n * member_block + length p.lines) w' ≡ p.lines
  pub marks : slice (n * mark_block) (n * mark_block + length p.marks) w' ≡ p.marks
  pub listing : slice (n * listing_block) (n * listing_block + length p.listing) w' ≡ p.listing
  pub rest : drop (n * join_block) w' ≡ drop (n * join_block) w

-- ---- all walks

-- the walks ws have m entries in all, which stand from `entries` on, and r lengths, which stand from `lengths` on
pub record Walks (width : ℕ) (w : List ℕ) (n old m entries lengths r : ℕ) (input spare merged : List ℕ) : Type 0 where
  pub rule : Rule
  pub counts : List ℕ
  pub ps : List Piece
  pub ws : List (List ℕ)
  pub held : Held width w old n input spare counts ps
  pub two : 2 ≤ width
  pub front : n * join_block ≤ old
  pub all : length (flatten ws) ≡ m
  pub number : length ws ≡ r
  pub few : r ≤ n
  pub entered : slice entries (entries + m) w ≡ flatten ws
  pub entries_in : (n * join_block ≤ entries) × (entries + m ≤ length w)
  pub measured : slice lengths (lengths + r) w ≡ map length ws
  pub lengths_in : (n * join_block ≤ lengths) × (lengths + r ≤ length w)
  pub filled : (j : ℕ) → j < r → 0 < length (get_or ws j [])
  pub below : (k : ℕ) → k < m → piece_of (get_or (flatten ws) k 0) < length ps
  pub listed : length (lines_of (map (merge rule ps) ws)) ≤ n
  pub fits : points_in rule ps (flatten ws) * width ≤ length merged

-- the records of the pieces qs that come out stand at the front, and their copies in `merged`
pub record Tabled (width : ℕ) (w' w : List ℕ) (n : ℕ) (merged' merged counts : List ℕ) (qs : List Piece) : Type 0 where
  pub size : length w' ≡ length w
  pub records : slice 0 (length qs * piece_size) w' ≡ piece_table counts 0 0 qs
  pub rest : drop (n * member_block) w' ≡ drop (n * member_block) w
  pub merged_is : merged' ≡ written (flat width (flat_map copy qs)) merged

-- THE PIECES THAT COME OUT: they stand in the block at the front; beyond it w is as before
pub record Done (width : ℕ) (w' w : List ℕ) (n : ℕ) (input merged' merged counts : List ℕ) (qs : List Piece) : Type 0 where
  pub size : length w' ≡ length w
  pub held : Packed width w' 0 n input merged' counts qs
  pub rest : drop (n * join_block) w' ≡ drop (n * join_block) w
  pub merged_is : merged' ≡ written (flat width (flat_map copy qs)) merged
