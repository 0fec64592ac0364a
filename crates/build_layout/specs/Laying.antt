-- From the pieces that the rounds of an accepted call leave to its answer. Chains and members are numbered on from the pieces to the lines that pass
-- through. In each record a name with a prime is what a slice is at return, and the plain name what it was.
use Rattle.std.specs.Prelude.{ℕ, ◌+◌, ◌*◌, ◌^◌, ◌≤◌, ◌<◌, ◌≡◌, false, List, [], ◌∷◌, map, length, get_or}
use Rattle.rules.specs.declared.Settings.{Settings}
use Rattle.rules.specs.Lists.{total}
use Rattle.rules.specs.Chaining.{Piece, pieces, round_one, round_two}
use Rattle.rules.specs.Layout.{Lines, lent, lines_in, table as table_of, Laid}
use Rattle.rules.specs.Refusals.{most_lines, most_points, record_size, piece_size}
use Rattle.rules.specs.Calls.{written}
use Rattle.point_slices.specs.Holds.{HoldsFrom}
use Rattle.chain_laws.proofs.Drawn.{Low}
use Rattle.chain_pieces.specs.Held.{lines_of, marks_of, listing_of, Packed}
use Rattle.build_lines.specs.Taken.{Adds, plain_of}

-- ---- the pieces of a call

-- the lines that pass through
abbrev pub passing_of : ℕ → Lines → List Piece
passing_of width l = pieces false 0 (lines_in width l)

-- the pieces that the rounds leave
abbrev pub left_of : ℕ → Settings → Lines → List Piece
left_of width s l = round_two s (round_one s (plain_of width l))

-- ---- words that are read narrower than they stand

-- the k words of w from `from` on are below `most`, and `out` has room for them from `at` on
pub record Narrow (w : List ℕ) (from k most : ℕ) (out : List ℕ) (at : ℕ) : Type 0 where
  pub inside : from + k ≤ length w
  pub room : at + k ≤ length out
  pub below : (i : ℕ) → i < k → get_or w (from + i) 0 < most

-- ---- pieces whose numbers are small

-- p pieces with l members in all stand at the front of w, one after another
pub record SmallPieces (width : ℕ) (w : List ℕ) (n p l : ℕ) (coordinates copies counts : List ℕ) : Type 0 where
  pub ps : List Piece
  pub held : Packed width w 0 n coordinates copies counts ps
  pub number : p ≡ length ps
  pub listed : l ≡ length (lines_of ps)
  pub members_low : Low most_lines (lines_of ps)
  pub points_few : total (map (λ (q : Piece). length q.points) ps) ≤ most_points
  pub few : n ≤ most_lines
  pub small : total counts ≤ most_points

-- ---- the pieces as chains

-- the p pieces ps of n lines stand at the front of w in small words, with what they copy, and the table has room for them
pub record PiecesLayable (width : ℕ) (w : List ℕ) (p : ℕ) (coordinates copies table : List ℕ) : Type 0 where
  pub n : ℕ
  pub counts : List ℕ
  pub ps : List Piece
  pub two : 2 ≤ width
  pub held : Packed width w 0 n coordinates copies counts ps
  pub number : p ≡ length ps
  pub small : (i : ℕ) → i < p * piece_size → get_or w i 0 < 2 ^ 32
  pub room : p * record_size ≤ length table

-- ---- one line that passes through

pub record ChainLayable (k chain m : ℕ) (table members marks listing : List ℕ) : Type 0 where
  pub narrow : (k ≤ most_lines) × (m ≤ most_lines)
  pub record_fits : chain * record_size + record_size ≤ length table
  pub member_fits : m < length members
  pub mark_fits : m < length marks
  pub line_fits : m < length listing

-- `closed` tells whether it is a loop
pub record Chained (k first count closed chain m : ℕ) (table' table members' members marks' marks listing' listing : List ℕ) : Type 0 where
  pub row : HoldsFrom table' table (chain * record_size) record_size (m ∷ 1 ∷ 0 ∷ first ∷ count ∷ closed ∷ [])
  pub member : HoldsFrom members' members m 1 (k ∷ [])
  pub mark : HoldsFrom marks' marks m 1 (0 ∷ [])
  pub line : HoldsFrom listing' listing m 1 (k ∷ [])

-- ---- all lines that pass through

-- the groups are any, and the counts add up to the coordinates; j chains and m members stand before
pub record Rest (width : ℕ) (coordinates counts kinds : List ℕ) (j m : ℕ) (table members marks listing : List ℕ) : Type 0 where
  pub groups : List ℕ
  pub few : length counts ≤ most_lines
  pub kinds_long : length kinds ≡ length counts
  pub adds : Adds width counts coordinates
  pub small : total counts ≤ most_points
  pub members_few : m + length (passing_of width (lent coordinates counts groups kinds)) ≤ most_lines
  pub table_fits : (j + length (passing_of width (lent coordinates counts groups kinds))) * record_size ≤ length table
  pub members_fit : m + length (passing_of width (lent coordinates counts groups kinds)) ≤ length members
  pub marks_fit : m + length (passing_of width (lent coordinates counts groups kinds)) ≤ length marks
  pub listing_fit : m + length (passing_of width (lent coordinates counts groups kinds)) ≤ length listing

-- the lines ps that pass through are chains; r chains stand then. What they copy is nothing, so that any number of points may stand before
pub record Rested (counts : List ℕ) (j m : ℕ) (ps : List Piece) (table' table members' members marks' marks listing' listing : List ℕ) (r : ℕ) : Type 0 where
  pub number : r ≡ j + length ps
  pub records : (c : ℕ) → HoldsFrom table' table (j * record_size) (length ps * record_size) (table_of counts m c ps)
  pub listed : HoldsFrom members' members m (length ps) (lines_of ps)
  pub turned : HoldsFrom marks' marks m (length ps) (marks_of ps)
  pub passed : HoldsFrom listing' listing m (length ps) (listing_of ps)

-- ---- a call

-- Any pieces ps stand at the front of w with what they copy, p pieces with l members in all, beside the lines that pass through: their numbers are small, and
-- together there are no more of them than lines. n, the coordinates and the rooms are those of an accepted call.
pub record Layable (width : ℕ) (w : List ℕ) (n p l : ℕ) (coordinates copies counts kinds table members marks listing : List ℕ) : Type 0 where
  pub groups : List ℕ
  pub ps : List Piece
  pub held : Packed width w 0 n coordinates copies counts ps
  pub number : p ≡ length ps
  pub listed : l ≡ length (lines_of ps)
  pub members_low : Low most_lines (lines_of ps)
  pub points_few : total (map (λ (q : Piece). length q.points) ps) ≤ most_points
  pub pieces_all : length ps + length (passing_of width (lent coordinates counts groups kinds)) ≤ n
  pub members_all : length (lines_of ps) + length (passing_of width (lent coordinates counts groups kinds)) ≤ n
  pub few : n ≤ most_lines
  pub counts_long : length counts ≡ n
  pub kinds_long : length kinds ≡ n
  pub adds : Adds width counts coordinates
  pub small : total counts ≤ most_points
  pub table_long : n * record_size ≤ length table
  pub members_long : n ≤ length members
  pub marks_long : n ≤ length marks
  pub listing_long : n ≤ length listing

-- what is laid out stands at the front of each slice, and beyond it the slice is as before
pub record Outputs (a : Laid) (table' table members' members marks' marks listing' listing : List ℕ) (r : ℕ) : Type 0 where
  pub number : r ≡ a.number
  pub records : table' ≡ written a.records table
  pub listed : members' ≡ written a.members members
  pub turned : marks' ≡ written a.marks marks
  pub passed : listing' ≡ written a.listing listing
