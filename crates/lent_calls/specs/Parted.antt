-- Building parted in two calls: the rooms that building and the second call have in common, and the pieces that the first call has left, as they are lent.
use Rattle.std.specs.Prelude.{ℕ, ◌≡◌}
use Rattle.rules.specs.Refusals.{Rooms}
use Rattle.rules.specs.Pieces.{LentPieces, lent_pieces, FirstRooms, FinishRooms}

-- all but the spare coordinates
pub record SameRooms (o : Rooms) (g : FinishRooms) : Type 0 where
  pub table : o.table ≡ g.table
  pub members : o.members ≡ g.members
  pub marks : o.marks ≡ g.marks
  pub listing : o.listing ≡ g.listing
  pub merged : o.merged ≡ g.merged
  pub boxes : o.boxes ≡ g.boxes
  pub workspace : o.workspace ≡ g.workspace

-- k pieces in the first call's rooms
abbrev pub lent_from : FirstRooms → ℕ → LentPieces
lent_from f k = lent_pieces f.pieces f.members f.marks f.listing f.merged k
