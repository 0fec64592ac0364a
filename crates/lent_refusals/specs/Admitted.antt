-- What the two calls have that no refusal meets: bounds that every later step asks for.
use Rattle.std.specs.Prelude.{ℕ, ◌*◌, ◌≤◌, ◌≡◌, false, List, Float, length}
use Rattle.rules.specs.declared.Settings.{Settings}
use Rattle.rules.specs.Boxes.{box_room}
use Rattle.rules.specs.Layout.{Lines}
use Rattle.rules.specs.Types.{width_of}
use Rattle.rules.specs.Refusals.{origin_bad, piece_size, record_size, line_room}
use Rattle.rules.specs.Pieces.{LentPieces, FirstRooms, FinishRooms}
use Rattle.build_refusals.specs.Tests.{switch_bad}
use Rattle.build_refusals.specs.Admitted.{LinesAdmitted}
use Rattle.lent_laws.specs.Passes.{Passes}

-- rooms for n lines, records of so many numbers, and numbers of coordinates
pub record Roomy (n size numbers : ℕ) (table members marks listing merged workspace : List ℕ) : Type 0 where
  pub table_long : n * size ≤ length table
  pub members_long : n ≤ length members
  pub marks_long : n ≤ length marks
  pub listing_long : n ≤ length listing
  pub merged_long : numbers ≤ length merged
  pub workspace_long : n * line_room ≤ length workspace

pub record FirstAdmitted (t : ℕ) (l : Lines) (switch : ℕ) (limit : Float) (o : FirstRooms) : Type 0 where
  pub lines : LinesAdmitted t l
  pub switched : switch_bad switch limit ≡ false
  pub roomy : Roomy (length l.counts) piece_size (length l.coordinates) o.pieces o.members o.marks o.listing o.merged o.workspace

pub record FinishAdmitted (t : ℕ) (l : Lines) (p : LentPieces) (s : Settings) (o : FinishRooms) : Type 0 where
  pub lines : LinesAdmitted t l
  pub switched : switch_bad s.switch s.limit ≡ false
  pub cornered : origin_bad s.origin_x s.origin_y ≡ false
  pub passes : Passes (width_of t) l p
  pub roomy : Roomy (length l.counts) record_size (length l.coordinates) o.table o.members o.marks o.listing o.merged o.workspace
  pub boxes_long : box_room (length l.counts) ≤ length o.boxes
