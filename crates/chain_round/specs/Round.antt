-- One round in its part w of the workspace, for n lines: what it asks, what stands after each phase, and what comes out. The pieces ps and the lines'
-- counts are known to the caller alone.
use Rattle.std.specs.Prelude.{ℕ, ◌+◌, ◌*◌, ◌≤◌, ◌<◌, ◌≡◌, true, false, cond, Option, Some, None, eqb, Float, length, drop}
use mathlib.Core.List.{List, map, flatten, flat_map}
use Rattle.std.proofs.Math.Seq.{slice}
use Rattle.rules.specs.declared.Settings.{Settings}
use Rattle.rules.specs.Lists.{total}
use Rattle.rules.specs.Plane.{flat, same_key}
use Rattle.rules.specs.Walking.{walks}
use Rattle.rules.specs.Chaining.{Piece, Rule, key_at, partner}
use Rattle.rules.specs.Layout.{copy}
use Rattle.rules.specs.Refusals.{most_lines, limit_bad}
use Rattle.rules.specs.Calls.{written}
use Rattle.chain_pieces.specs.Held.{Held, Packed}
use Rattle.chain_grouping.specs.Group.{same_words, words_of, Nodes}
use Rattle.chain_keys.specs.Tells.{OneGroup}
use Rattle.chain_nodes.specs.Noded.{Noded}
use Rattle.chain_pieces.specs.Map.{group_block, join_block, round_room, taken_block}
use Rattle.chain_walks.specs.Map.{entry_block, length_block}

-- m pieces stand in the block of those that go in
pub record Rounding (width : ℕ) (w : List ℕ) (n m : ℕ) (groups input spare : List ℕ) : Type 0 where
  pub counts : List ℕ
  pub ps : List Piece
  pub two : 2 ≤ width
  pub few : n ≤ most_lines
  pub number : m ≡ length ps
  pub room : n * round_room ≤ length w
  pub held : Held width w (n * taken_block) n input spare counts ps
  pub grouped : OneGroup groups ps

-- the ends are grouped, and the pieces stand where they stood
pub record EndsStand (width : ℕ) (w : List ℕ) (n ends : ℕ) (rule : Rule) (counts : List ℕ) (ps : List Piece) (input spare : List ℕ) : Type 0 where
  pub room : n * round_room ≤ length w
  pub held : Held width w (n * taken_block) n input spare counts ps
  pub nodes : Nodes (drop (n * group_block) w) (drop (n * group_block) w) ends
  pub keys : (e f : ℕ) → e < ends → f < ends
      → same_words (words_of (drop (n * group_block) w) ends e) (words_of (drop (n * group_block) w) ends f) ≡ same_key (key_at rule ps e) (key_at rule ps f)

-- the book's walks: r of them, their entries, and their lengths
pub record RoundWalked (width : ℕ) (w : List ℕ) (n m r : ℕ) (rule : Rule) (counts : List ℕ) (ps : List Piece) (input spare : List ℕ) : Type 0 where
  pub room : n * round_room ≤ length w
  pub held : Held width w (n * taken_block) n input spare counts ps
  pub number : r ≡ length (walks (partner rule ps) m)
  pub entered : slice (n * join_block + m * entry_block) (n * join_block + m * entry_block + m) w ≡ flatten (walks (partner rule ps) m)
  pub measured : slice (n * join_block + m * length_block) (n * join_block + m * length_block + r) w ≡ map length (walks (partner rule ps) m)

-- the walks of these pieces: where junction pairing is on its limit is fair
pub record Walkable (width : ℕ) (w : List ℕ) (n m : ℕ) (s : Settings) (groups input spare : List ℕ) : Type 0 where
  pub rounding : Rounding width w n m groups input spare
  pub fair : eqb s.switch 1 ≡ true → limit_bad s.limit ≡ false

-- the whole round: and the pieces' points fit into `merged`
pub record Joinable (width : ℕ) (w : List ℕ) (n m : ℕ) (s : Settings) (groups input spare merged : List ℕ) : Type 0 where
  pub walkable : Walkable width w n m s groups input spare
  pub fits : total (map (λ (p : Piece). length p.points) walkable.rounding.ps) * width ≤ length merged

-- the limit of junction pairing, where it is on
abbrev pub paired_to : Settings → Option Float
paired_to s = cond (eqb s.switch 1) (Some s.limit) None

-- its second half, where the ends are grouped
pub record GroupedRound (width : ℕ) (w : List ℕ) (n m : ℕ) (limit : Option Float) (input spare merged : List ℕ) : Type 0 where
  pub noded : Noded width w n (m * 2) limit input spare
  pub fits : total (map (λ (p : Piece). length p.points) noded.ps) * width ≤ length merged

-- and its end, where r walks stand
pub record RoundEmits (width : ℕ) (w : List ℕ) (n m r : ℕ) (input spare merged : List ℕ) : Type 0 where
  pub rule : Rule
  pub counts : List ℕ
  pub ps : List Piece
  pub two : 2 ≤ width
  pub number : m ≡ length ps
  pub walked : RoundWalked width w n m r rule counts ps input spare
  pub fits : total (map (λ (p : Piece). length p.points) ps) * width ≤ length merged

-- THE PIECES THAT COME OUT, qs: they stand in the block at the front, and what they copy in `merged`
pub record Rounded (width : ℕ) (w' w : List ℕ) (n r : ℕ) (input merged' merged counts : List ℕ) (qs : List Piece) : Type 0 where
  pub size : length w' ≡ length w
  pub number : r ≡ length qs
  pub held : Packed width w' 0 n input merged' counts qs
  pub merged_is : merged' ≡ written (flat width (flat_map copy qs)) merged

-- beyond the block all is as it was
pub record RoundEmitted (width : ℕ) (w' w : List ℕ) (n r : ℕ) (input merged' merged counts : List ℕ) (qs : List Piece) : Type 0 where
  pub rounded : Rounded width w' w n r input merged' merged counts qs
  pub rest : drop (n * join_block) w' ≡ drop (n * join_block) w
