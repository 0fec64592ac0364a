-- What a building call has that no refusal meets: bounds that every later step asks for.
use Rattle.std.specs.Prelude.{ℕ, ◌*◌, ◌≤◌, ◌≡◌, false, length}
use Rattle.rules.specs.declared.Settings.{Settings}
use Rattle.rules.specs.Lists.{total}
use Rattle.rules.specs.Plane.{points}
use Rattle.rules.specs.Boxes.{box_room}
use Rattle.rules.specs.Layout.{Lines}
use Rattle.rules.specs.Types.{width_of}
use Rattle.rules.specs.Districts.{over_lines, over_points}
use Rattle.rules.specs.Refusals.{Rooms, any_nowhere, origin_bad, most_lines, most_points, record_size, line_room}
use Rattle.build_refusals.specs.Tests.{switch_bad}

-- of its lines
pub record LinesAdmitted (t : ℕ) (l : Lines) : Type 0 where
  pub two : 2 ≤ width_of t
  pub few : length l.counts ≤ most_lines
  pub groups_long : length l.groups ≡ length l.counts
  pub kinds_long : length l.kinds ≡ length l.counts
  pub adds : total l.counts * width_of t ≡ length l.coordinates
  pub small : total l.counts ≤ most_points
  pub lines_shared : over_lines l.groups ≡ false
  pub points_shared : over_points l.counts l.groups ≡ false
  pub places : any_nowhere (points (width_of t) l.coordinates) ≡ false

-- of all
pub record Admitted (t : ℕ) (l : Lines) (s : Settings) (o : Rooms) : Type 0 where
  pub two : 2 ≤ width_of t
  pub few : length l.counts ≤ most_lines
  pub groups_long : length l.groups ≡ length l.counts
  pub kinds_long : length l.kinds ≡ length l.counts
  pub adds : total l.counts * width_of t ≡ length l.coordinates
  pub small : total l.counts ≤ most_points
  pub lines_shared : over_lines l.groups ≡ false
  pub points_shared : over_points l.counts l.groups ≡ false
  pub places : any_nowhere (points (width_of t) l.coordinates) ≡ false
  pub switched : switch_bad s.switch s.limit ≡ false
  pub cornered : origin_bad s.origin_x s.origin_y ≡ false
  pub table_long : length l.counts * record_size ≤ length o.table
  pub members_long : length l.counts ≤ length o.members
  pub marks_long : length l.counts ≤ length o.marks
  pub listing_long : length l.counts ≤ length o.listing
  pub merged_long : length l.coordinates ≤ length o.merged
  pub boxes_long : box_room (length l.counts) ≤ length o.boxes
  pub spare_long : length l.coordinates ≤ length o.spare
  pub workspace_long : length l.counts * line_room ≤ length o.workspace
