-- Pieces that come out of a round as a call leaves them: at the front of the lent slices, and beyond them what these held.
use Rattle.std.specs.Prelude.{ℕ, ◌*◌, ◌≤◌, ◌≡◌, List, length}
use Rattle.rules.specs.Chaining.{Piece}
use Rattle.rules.specs.Layout.{piece_table}
use Rattle.rules.specs.Refusals.{piece_size}
use Rattle.rules.specs.Calls.{written}
use Rattle.chain_pieces.specs.Held.{lines_of, marks_of, listing_of}
use Rattle.build_layout.specs.Laying.{SmallPieces}

-- p pieces with m members in all stand at the front of w, and there is room for n lines
pub record Leavable (w : List ℕ) (n p m : ℕ) (pieces members marks listing : List ℕ) : Type 0 where
  pub width : ℕ
  pub coordinates : List ℕ
  pub copies : List ℕ
  pub counts : List ℕ
  pub small : SmallPieces width w n p m coordinates copies counts
  pub pieces_long : n * piece_size ≤ length pieces
  pub members_long : n ≤ length members
  pub marks_long : n ≤ length marks
  pub listing_long : n ≤ length listing

pub record PiecesLeft (counts : List ℕ) (ps : List Piece) (pieces' pieces members' members marks' marks listing' listing : List ℕ) : Type 0 where
  pub records : pieces' ≡ written (piece_table counts 0 0 ps) pieces
  pub listed : members' ≡ written (lines_of ps) members
  pub turned : marks' ≡ written (marks_of ps) marks
  pub passed : listing' ≡ written (listing_of ps) listing
