-- The workspace of a pairing of d ends, 64 words for each: d presence marks, two words for each end's direction, in bits, d piece numbers, and room for
-- d words of pairs, two for each. The rest is the route's own.
use Rattle.std.specs.Prelude.{ℕ, ◌+◌, ◌*◌, ◌≤◌, ◌≡◌, List, map, length, get_or, take, drop}
use Rattle.std.proofs.Math.Seq.{slice}
use Rattle.rules.specs.Answers.{Direction}
use Rattle.rules.specs.Plane.{float}
use Rattle.rules.specs.Selecting.{End}
use Rattle.rules.specs.Layout.{given, ends}
use Rattle.rules.specs.Refusals.{most_ends, end_room}
use Rattle.pair_laws.specs.Ranked.{select}
use Rattle.pair_laws.specs.Taking.{listed}
use Rattle.pair_laws.specs.Ends.{node_of}
use Rattle.pair_ends.specs.Blocks.{pieces_from, pairs_from}

pub record EndsRoom (w : List ℕ) (d : ℕ) : Type 0 where
  pub few : d ≤ most_ends
  pub long : d * end_room ≤ length w

unfoldable pub direction_at : List ℕ → ℕ → ℕ → Direction
unfolding given
direction_at w d e = given (get_or w e 0) (float (get_or w (d + e * 2) 0)) (float (get_or w (d + e * 2 + 1) 0))

abbrev pub piece_at : List ℕ → ℕ → ℕ → ℕ
piece_at w d e = get_or w (d * pieces_from + e) 0

-- the ends that a workspace holds, read as those that a call lends
unfoldable pub ends_in : List ℕ → ℕ → List End
unfolding ends
ends_in w d = ends 0 (slice 0 d w) (map float (slice d (d * pieces_from) w)) (slice (d * pieces_from) (d * pairs_from) w)

-- What a route leaves of a workspace w, under the key of a limit: r pairs are selected, and listed behind the piece numbers; the ends are as before,
-- and so is what lies beyond the room.
pub record Selected (w : List ℕ) (d limit r : ℕ) (w' : List ℕ) : Type 0 where
  pub count : r ≡ length (select (node_of (ends_in w d)) limit)
  pub pairs : slice (d * pairs_from) (d * pairs_from + r * 2) w' ≡ listed (select (node_of (ends_in w d)) limit)
  pub kept : take (d * pairs_from) w' ≡ take (d * pairs_from) w
  pub beyond : drop (d * end_room) w' ≡ drop (d * end_room) w
