-- A round that joins none, in its part w of the workspace for n lines: what it asks, its walks, and what comes out.
use Rattle.std.specs.Prelude.{ℕ, ◌+◌, ◌*◌, ◌≤◌, ◌≡◌, length, replicate}
use mathlib.Core.List.{List, map, flat_map}
use Rattle.rules.specs.Lists.{upto, total}
use Rattle.rules.specs.Plane.{flat}
use Rattle.rules.specs.Chaining.{Piece}
use Rattle.rules.specs.Layout.{copy}
use Rattle.rules.specs.Calls.{written}
use Rattle.point_slices.specs.Holds.{HoldsFrom}
use Rattle.chain_pieces.specs.Held.{Held, Packed}
use Rattle.chain_pieces.specs.Map.{round_room, taken_block}

-- each piece is entered at its end 0
abbrev pub entries_of : ℕ → List ℕ
entries_of m = map (λ q. q * 2) (upto m)

pub record EachWalked (w' w : List ℕ) (at m : ℕ) : Type 0 where
  pub one : List ℕ
  pub entered : HoldsFrom one w at m (entries_of m)
  pub measured : HoldsFrom w' one (at + m) m (replicate m 1)

-- m pieces stand in the block of those that go in, and their points fit into `merged`
pub record Keepable (width : ℕ) (w : List ℕ) (n m : ℕ) (input spare merged : List ℕ) : Type 0 where
  pub counts : List ℕ
  pub ps : List Piece
  pub two : 2 ≤ width
  pub number : m ≡ length ps
  pub room : n * round_room ≤ length w
  pub held : Held width w (n * taken_block) n input spare counts ps
  pub fits : total (map (λ (p : Piece). length p.points) ps) * width ≤ length merged

-- THEY COME OUT AS THEY ARE
pub record Kept (width : ℕ) (w' w : List ℕ) (n : ℕ) (input merged' merged counts : List ℕ) (ps : List Piece) : Type 0 where
  pub size : length w' ≡ length w
  pub held : Packed width w' 0 n input merged' counts ps
  pub merged_is : merged' ≡ written (flat width (flat_map copy ps)) merged
