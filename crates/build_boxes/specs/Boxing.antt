-- The boxes of a table's chains, by the views of their coordinates, and what is asked of a table for them.
use Rattle.std.specs.Prelude.{ℕ, ◌≤◌, ◌<◌, ◌≡◌, false, List, map, length}
use Rattle.rules.specs.declared.Box.{Box}
use Rattle.rules.specs.Lists.{upto}
use Rattle.rules.specs.Plane.{Point, points}
use Rattle.rules.specs.Boxes.{box_of, box_room}
use Rattle.rules.specs.Refusals.{no_chain}
use Rattle.build_question.specs.Parts.{part_of}
use Rattle.box_laws.specs.Sound.{Places}
use Rattle.box_levels.specs.Lying.{most_boxes}

-- chain j's points
abbrev pub chain_points : ℕ → List ℕ → List ℕ → List ℕ → ℕ → List Point
chain_points w input merged table j = points w (part_of w input merged table j)

-- the boxes of the first k chains
unfoldable pub chain_boxes : ℕ → List ℕ → List ℕ → List ℕ → ℕ → List Box
chain_boxes w input merged table k = map (λ j. box_of (chain_points w input merged table j)) (upto k)

-- k chains whose coordinates are there and are places, and room for their boxes
pub record Boxable (w : ℕ) (input merged table : List ℕ) (k : ℕ) (boxes : List ℕ) : Type 0 where
  pub two : 2 ≤ w
  pub narrow : w ≤ 4
  pub few : k ≤ most_boxes
  pub room : box_room k ≤ length boxes
  pub there : (j : ℕ) → j < k → no_chain w input merged table j ≡ false
  pub places : (j : ℕ) → j < k → Places (chain_points w input merged table j)
