-- What is asked of coordinates whose extent is sought, and of boxes that others are laid above.
use Rattle.std.specs.Prelude.{ℕ, ◌+◌, ◌*◌, ◌≤◌, ◌<◌, List, length, drop}
use Rattle.rules.specs.Plane.{points, reads}
use Rattle.rules.specs.Boxes.{box_at, box_room}
use Rattle.point_numbers.specs.Width.{Whole}
use Rattle.box_laws.specs.Sound.{Places, BoxSound}

-- whole points, and each a place
pub record Lying (width : ℕ) (part : List ℕ) : Type 0 where
  pub two : 2 ≤ width
  pub narrow : width ≤ 4
  pub whole : Whole width part
  pub places : Places (points width part)

-- four of them from the i-th number on
pub record FourAt (width : ℕ) (part : List ℕ) (i : ℕ) : Type 0 where
  pub two : 2 ≤ width
  pub narrow : width ≤ 4
  pub there : i + width * 4 ≤ length part
  pub places : Places (reads width 4 (drop i part))

-- for so many chains the room that is asked for holds all levels
abbrev pub most_boxes : ℕ
most_boxes = 65536

-- k boxes without a NaN, with room for those above them
pub record Raisable (boxes : List ℕ) (k : ℕ) : Type 0 where
  pub room : box_room k ≤ length boxes
  pub few : k ≤ most_boxes
  pub sound : (i : ℕ) → i < k → BoxSound (box_at boxes i)
