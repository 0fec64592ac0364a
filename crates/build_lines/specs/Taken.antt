-- What `take_lines` asks and leaves: the plain lines stand as pieces in the block at 13 n of the workspace w, whatever the groups and the copies are,
-- for coordinates of any width to which the counts add up.
use Rattle.std.specs.Prelude.{ℕ, ◌*◌, ◌≤◌, ◌≡◌, true, List, length, take, drop}
use Rattle.rules.specs.Lists.{total}
use Rattle.rules.specs.Chaining.{Piece, pieces}
use Rattle.rules.specs.Layout.{Lines, lent, lines_in}
use Rattle.rules.specs.Refusals.{most_lines}
use Rattle.chain_pieces.specs.Held.{Held}
use Rattle.chain_pieces.specs.Map.{node_block, taken_block}

-- the counts add up to the points of a width that the input has
pub record Adds (width : ℕ) (counts input : List ℕ) : Type 0 where
  pub two : 2 ≤ width
  pub sum : total counts * width ≡ length input

pub record Takable (w : List ℕ) (n : ℕ) (counts kinds : List ℕ) : Type 0 where
  pub few : n ≤ most_lines
  pub counts_long : length counts ≡ n
  pub kinds_long : length kinds ≡ n
  pub room : n * node_block ≤ length w

-- the plain lines of a call, as pieces
abbrev pub plain_of : ℕ → Lines → List Piece
plain_of width l = pieces true 0 (lines_in width l)

-- r pieces stand in the block, and outside it w is as before
pub record Taken (w' w : List ℕ) (n : ℕ) (counts kinds : List ℕ) (r : ℕ) : Type 0 where
  pub size : length w' ≡ length w
  pub front : take (n * taken_block) w' ≡ take (n * taken_block) w
  pub rest : drop (n * node_block) w' ≡ drop (n * node_block) w
  pub number : (width : ℕ) (input groups : List ℕ) → Adds width counts input → r ≡ length (plain_of width (lent input counts groups kinds))
  pub held : (width : ℕ) (input groups copies : List ℕ) → Adds width counts input → Held width w' (n * taken_block) n input copies counts (plain_of width (lent input counts groups kinds))
