-- Pieces one after another at the front of slices, as a call leaves them: the records count what the pieces before wrote, and copies stand behind copies.
use Rattle.std.specs.Prelude.{ℕ, ◌*◌, ◌≡◌, length, take}
use mathlib.Core.List.{List, flat_map}
use Rattle.rules.specs.Plane.{flat}
use Rattle.rules.specs.Chaining.{Piece}
use Rattle.rules.specs.Layout.{copy, piece_table}
use Rattle.rules.specs.Refusals.{piece_size}
use Rattle.rules.specs.Pieces.{LentPieces}
use Rattle.chain_pieces.specs.Held.{lines_of, marks_of, listing_of}

-- whatever lies beyond them; `counts` are the lines' own
pub record Compact (width : ℕ) (counts : List ℕ) (ps : List Piece) (p : LentPieces) : Type 0 where
  pub number : p.number ≡ length ps
  pub records : take (length ps * piece_size) p.records ≡ piece_table counts 0 0 ps
  pub members : take (length (lines_of ps)) p.members ≡ lines_of ps
  pub marks : take (length (marks_of ps)) p.marks ≡ marks_of ps
  pub listing : take (length (listing_of ps)) p.listing ≡ listing_of ps
  pub merged : take (length (flat_map copy ps) * width) p.merged ≡ flat width (flat_map copy ps)
