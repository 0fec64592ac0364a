-- The ends of a junction in the workspace: their numbers stand in a list, their pieces' records elsewhere, and a pairing's part takes their directions and pieces.
use Rattle.std.specs.Prelude.{ℕ, ◌+◌, ◌*◌, ◌/◌, ◌%◌, ◌≤◌, ◌<◌, ◌≡◌, ◌≢◌, List, length, get_or, drop}
use Rattle.rules.specs.Answers.{Direction}
use Rattle.rules.specs.Plane.{points, direction_of}
use Rattle.rules.specs.Refusals.{most_ends, end_room, piece_size}
use Rattle.point_direction.specs.Seen.{seen}
use Rattle.chain_pieces.specs.Held.{record_of, coordinates_at, Recorded}
use Rattle.pair_ends.specs.Ends.{direction_at, piece_at}
use Rattle.pair_ends.specs.Blocks.{pairs_from}

-- the direction of end e, by the record of its piece
unfoldable pub way_at : ℕ → List ℕ → ℕ → List ℕ → List ℕ → ℕ → Direction
unfolding direction_of points coordinates_at
way_at width w records input spare e = direction_of (seen (e % 2) (points width (coordinates_at width w (record_of records (e / 2)) input spare)))

-- one end is put, and the others stand as they did
pub record EndPut (w' w : List ℕ) (d i : ℕ) (way : Direction) (piece : ℕ) : Type 0 where
  pub direction : direction_at w' d i ≡ way
  pub number : piece_at w' d i ≡ piece
  pub others : (k : ℕ) → k < d → k ≢ i → (direction_at w' d k ≡ direction_at w d k) × (piece_at w' d k ≡ piece_at w d k)
  pub beyond : (j : ℕ) → d * pairs_from ≤ j → get_or w' j 0 ≡ get_or w j 0

-- the d ends that are listed have their records below the part, which has room for them
pub record JunctionEnds (width : ℕ) (w : List ℕ) (records list part d : ℕ) (input spare : List ℕ) : Type 0 where
  pub two : 2 ≤ width
  pub few : d ≤ most_ends
  pub room : part + d * end_room ≤ length w
  pub listed : list + d ≤ part
  pub below : (i : ℕ) → i < d → record_of records (get_or w (list + i) 0 / 2) + piece_size ≤ part
  pub recorded : (i : ℕ) → i < d → Recorded width w (record_of records (get_or w (list + i) 0 / 2)) input spare

-- each end stands in the part with its direction and its piece; before the part, and beyond what pairing reads, all is as it was
pub record EndsPut (width : ℕ) (w' w : List ℕ) (records list part d : ℕ) (input spare : List ℕ) : Type 0 where
  pub direction : (i : ℕ) → i < d → direction_at (drop part w') d i ≡ way_at width w records input spare (get_or w (list + i) 0)
  pub number : (i : ℕ) → i < d → piece_at (drop part w') d i ≡ get_or w (list + i) 0 / 2
  pub front : (j : ℕ) → j < part → get_or w' j 0 ≡ get_or w j 0
  pub beyond : (j : ℕ) → part + d * pairs_from ≤ j → get_or w' j 0 ≡ get_or w j 0
