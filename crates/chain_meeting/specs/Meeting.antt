-- The ends of a round's walks, grouped by the cells of the next round before anything is laid: what each step asks, and what it leaves. The walks, the pieces
-- and the rule are known to the caller alone.
use Rattle.std.specs.Prelude.{ℕ, ◌+◌, ◌*◌, ◌/◌, ◌%◌, ◌≤◌, ◌<◌, ◌≡◌, length, get_or, drop}
use mathlib.Core.List.{List, [], map, flatten}
use Rattle.std.proofs.Math.Seq.{slice}
use Rattle.rules.specs.declared.Settings.{Settings}
use Rattle.rules.specs.Answers.{Grid}
use Rattle.rules.specs.Plane.{same_key}
use Rattle.rules.specs.Walking.{piece_of}
use Rattle.rules.specs.Chaining.{Piece, Rule, key_at, join, rule_of, cells_of}
use Rattle.rules.specs.Refusals.{most_lines}
use Rattle.chain_pieces.specs.Held.{record_of}
use Rattle.chain_pieces.specs.Map.{node_block}
use Rattle.chain_grouping.specs.Group.{same_words, words_at, words_of, Nodes}
use Rattle.chain_keys.specs.Keys.{words_for, Keyable}
use Rattle.chain_keys.specs.Tells.{OneGroup}
use Rattle.chain_round.specs.Round.{RoundWalked}
use Rattle.chain_meeting.specs.Map.{meeting_block}

-- the walks ws have m entries in all, which stand from `entries` on, and r lengths, which stand from `lengths` on; the list of their outer ends goes behind both
pub record OuterListable (w : List ℕ) (entries lengths r at : ℕ) : Type 0 where
  pub m : ℕ
  pub ws : List (List ℕ)
  pub number : length ws ≡ r
  pub all : length (flatten ws) ≡ m
  pub filled : (j : ℕ) → j < r → 0 < length (get_or ws j [])
  pub entered : slice entries (entries + m) w ≡ flatten ws
  pub measured : slice lengths (lengths + r) w ≡ map length ws
  pub low : (k : ℕ) → k < m → piece_of (get_or (flatten ws) k 0) < most_lines
  pub entries_below : entries + m ≤ at
  pub lengths_below : lengths + r ≤ at
  pub room : at + r * 2 ≤ length w

-- k ends of pieces that have keys are listed below the keys
pub record Collectable (width : ℕ) (w : List ℕ) (records members ends keys k : ℕ) (groups input : List ℕ) : Type 0 where
  pub count : ℕ
  pub keyable : Keyable width w records members keys count groups input input
  pub few : k ≤ count * 2
  pub below : ends + k ≤ keys
  pub inside : (t : ℕ) → t < k → get_or w (ends + t) 0 / 2 < count

-- their keys, by the workspace as it stood; what stands below them stays
pub record Collected (width : ℕ) (w' w : List ℕ) (records members ends keys k : ℕ) (groups input : List ℕ) (grid : Grid) : Type 0 where
  pub each : (t : ℕ) → t < k
      → words_at w' keys t ≡ words_for width w (record_of records (get_or w (ends + t) 0 / 2)) (get_or w (ends + t) 0 % 2) members groups input input grid
  pub kept : (j : ℕ) → j < keys → get_or w' j 0 ≡ get_or w j 0

-- r walks of m lines stand in a round's part of the workspace
pub record Meetable (width : ℕ) (w : List ℕ) (n m r : ℕ) (groups input : List ℕ) : Type 0 where
  pub rule : Rule
  pub counts : List ℕ
  pub ps : List Piece
  pub two : 2 ≤ width
  pub few : n ≤ most_lines
  pub number : m ≡ length ps
  pub grouped : OneGroup groups ps
  pub walked : RoundWalked width w n m r rule counts ps input input

-- THE ENDS OF WHAT THE WALKS WILL BE, grouped by their cells; what the round left stays
pub record Met (w' w : List ℕ) (n r : ℕ) (s : Settings) (rule : Rule) (ps : List Piece) : Type 0 where
  pub size : length w' ≡ length w
  pub nodes : Nodes (drop (n * meeting_block) w') (drop (n * meeting_block) w') (r * 2)
  pub keys : (e f : ℕ) → e < r * 2 → f < r * 2
      → same_words (words_of (drop (n * meeting_block) w') (r * 2) e) (words_of (drop (n * meeting_block) w') (r * 2) f)
      ≡ same_key (key_at (rule_of (cells_of s) s) (join rule ps) e) (key_at (rule_of (cells_of s) s) (join rule ps) f)
  pub kept : (j : ℕ) → j < n * node_block → get_or w' j 0 ≡ get_or w j 0
