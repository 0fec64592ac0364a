-- Ends that are grouped by key in a round's part of the workspace, for n lines, and the joins of their nodes. The pieces and the rule are known to the caller alone.
use Rattle.std.specs.Prelude.{ℕ, ◌+◌, ◌*◌, ◌≤◌, ◌<◌, ◌≡◌, true, false, Option, Some, None, List, [], Float, length, get_or, drop}
use Rattle.std.proofs.Math.Option.{Option as Limit, none, some}
use Rattle.std.proofs.Math.Seq.{slice}
use Rattle.rules.specs.Plane.{same_key}
use Rattle.rules.specs.Chaining.{Piece, Rule, key_at, joined}
use Rattle.rules.specs.Refusals.{most_lines, limit_bad}
use Rattle.chain_pieces.specs.Held.{Held}
use Rattle.chain_grouping.specs.Group.{same_words, words_of, Nodes}
use Rattle.chain_joins.specs.Node.{node_of, leading}
use Rattle.chain_grouping.specs.Map.{last_block, next_block}
use Rattle.chain_pieces.specs.Map.{group_block, join_block, node_block, round_room, taken_block}

-- the limit as the rule has it
abbrev pub limit_in : Option Float → Limit Float
limit_in None = none
limit_in (Some x) = some x

-- the m ends of the pieces are grouped at 151 n, by words that are equal where their keys are
pub record Noded (width : ℕ) (w : List ℕ) (n m : ℕ) (limit : Option Float) (input spare : List ℕ) : Type 0 where
  pub rule : Rule
  pub counts : List ℕ
  pub ps : List Piece
  pub two : 2 ≤ width
  pub few : n ≤ most_lines
  pub ends : m ≡ 2 * length ps
  pub room : n * round_room ≤ length w
  pub held : Held width w (n * taken_block) n input spare counts ps
  pub limited : rule.limit ≡ limit_in limit
  pub fair : (x : Float) → limit ≡ Some x → limit_bad x ≡ false
  pub nodes : Nodes (drop (n * group_block) w) (drop (n * group_block) w) m
  pub keys : (e f : ℕ) → e < m → f < m
      → same_words (words_of (drop (n * group_block) w) m e) (words_of (drop (n * group_block) w) m f) ≡ same_key (key_at rule ps e) (key_at rule ps f)

-- with junction pairing on, e leads a node of three or more ends
pub record Junction (width : ℕ) (w : List ℕ) (n m e : ℕ) (limit : Float) (input spare : List ℕ) : Type 0 where
  pub noded : Noded width w n m (Some limit) input spare
  pub within : e < m
  pub leads : e ≤ get_or (drop (n * group_block) w) (m * last_block + e) 0
  pub more : 0 < get_or (drop (n * group_block) w) (m * next_block + e) 0
  pub many : 0 < get_or (drop (n * group_block) w) (m * next_block + get_or (drop (n * group_block) w) (m * next_block + e) 0) 0

-- what end e adds to the pairs that are joined
unfoldable pub joins_at : Rule → List Piece → List ℕ → ℕ → ℕ → List (ℕ × ℕ)
unfolding leading node_of joined
joins_at rule ps v m e = elim (leading v m e) [ true ↦ joined rule ps (node_of v m e) | false ↦ [] ]

-- the table of joins is t; between it and the room for one node, and from the groups on, all is as it was
pub record Joined (w' w : List ℕ) (n m : ℕ) (t : List ℕ) : Type 0 where
  pub size : length w' ≡ length w
  pub joins : slice (n * join_block) (n * join_block + m) w' ≡ t
  pub kept : (j : ℕ) → n * join_block + m ≤ j → j < n * node_block → get_or w' j 0 ≡ get_or w j 0
  pub beyond : (j : ℕ) → n * group_block ≤ j → get_or w' j 0 ≡ get_or w j 0
