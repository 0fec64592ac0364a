-- The words of an end's key, read off its piece's record.
use Rattle.std.specs.Prelude.{ℕ, ◌+◌, ◌-◌, ◌*◌, ◌/◌, ◌%◌, ◌≤◌, ◌<◌, ◌≡◌, cond, List, eqb, length, get_or, set}
use Rattle.std.specs.Prelude.{Some}
use Rattle.rules.specs.Answers.{Grid}
use Rattle.rules.specs.Answers.{Exact}
use Rattle.rules.specs.Cell.{cell}
use Rattle.float_cell.specs.Lifted.{lifted}
use Rattle.chain_pieces.specs.Held.{record_of, coordinates_at, Recorded}
use Rattle.chain_grouping.specs.Group.{Words, words, words_at}
use Rattle.chain_grouping.specs.Map.{key_size}
use Rattle.chain_keys.specs.Map.{both_keys}
use Rattle.rules.specs.Refusals.{piece_size}

-- the group of the first member of the record at p
unfoldable pub group_at : List ℕ → ℕ → ℕ → List ℕ → ℕ
group_at w p members groups = get_or groups (get_or w (members + get_or w p 0) 0) 0

-- the x or y at a side of the record at p: of the first point that it names, or of the last
unfoldable pub number_at : ℕ → List ℕ → ℕ → ℕ → ℕ → List ℕ → List ℕ → ℕ
unfolding coordinates_at
number_at width w p side axis input spare =
    let l = coordinates_at width w p input spare in get_or l (cond (eqb side 0) 0 (length l - width) + axis) 0

-- the word of an x (axis 0) or y (axis 1): its bits, or the number of its cell
unfoldable pub word_of : Grid → ℕ → ℕ → ℕ
unfolding cell
word_of Exact axis bits = bits
word_of (Some m) axis bits = lifted (cell m.tolerance (cond (eqb axis 0) m.origin_x m.origin_y) bits)

-- the words of the key at a side of the record at p
unfoldable pub words_for : ℕ → List ℕ → ℕ → ℕ → ℕ → List ℕ → List ℕ → List ℕ → Grid → Words
unfolding group_at number_at word_of
words_for width w p side members groups input spare grid =
    words (group_at w p members groups) (word_of grid 0 (number_at width w p side 0 input spare)) (word_of grid 1 (number_at width w p side 1 input spare))

-- the workspace with the key at a side of the record at p, three words at `at`
unfoldable pub keyed_at : ℕ → List ℕ → ℕ → ℕ → ℕ → ℕ → List ℕ → List ℕ → List ℕ → Grid → List ℕ
unfolding group_at number_at word_of
keyed_at width w p side members at groups input spare grid =
    set
    (set
    (set w at (group_at w p members groups))
    (at + 1)
    (word_of grid 0 (number_at width w p side 0 input spare)))
    (at + 2)
    (word_of grid 1 (number_at width w p side 1 input spare))

-- the workspace with the key of end e
abbrev pub keyed : ℕ → List ℕ → ℕ → ℕ → ℕ → ℕ → List ℕ → List ℕ → List ℕ → Grid → List ℕ
keyed width w records members keys e groups input spare grid =
    keyed_at width w (record_of records (e / 2)) (e % 2) members (keys + e * key_size) groups input spare grid

-- the workspace with the keys of both ends of piece q
unfoldable pub both_keyed : ℕ → List ℕ → ℕ → ℕ → ℕ → ℕ → List ℕ → List ℕ → List ℕ → Grid → List ℕ
unfolding group_at number_at word_of
both_keyed width w records members keys q groups input spare grid =
    let group = group_at w (record_of records q) members groups in
    let word = λ (side axis : ℕ). word_of grid axis (number_at width w (record_of records q) side axis input spare) in
    let first = set (set (set w (keys + q * both_keys) group) (keys + q * both_keys + 1) (word 0 0)) (keys + q * both_keys + 2) (word 0 1) in
    set (set (set first (keys + q * both_keys + 3) group) (keys + q * both_keys + 3 + 1) (word 1 0)) (keys + q * both_keys + 3 + 2) (word 1 1)

-- the record at p has a coordinate, and all of them stand in its source
pub record PiecePlaced (width : ℕ) (w : List ℕ) (p : ℕ) (input spare : List ℕ) : Type 0 where
  pub two : 2 ≤ width
  pub recorded : Recorded width w p input spare
  pub long : 0 < get_or w (p + 4) 0

-- the record's first member is a line that has a group
pub record Grouping (w : List ℕ) (p members : ℕ) (groups : List ℕ) : Type 0 where
  pub inside : p + 5 ≤ length w
  pub member : members + get_or w p 0 < length w
  pub line : get_or w (members + get_or w p 0) 0 < length groups

-- what the keys of `count` pieces ask: records and members stand below the keys
pub record Keyable (width : ℕ) (w : List ℕ) (records members keys count : ℕ) (groups input spare : List ℕ) : Type 0 where
  pub room : keys + count * both_keys ≤ length w
  pub below : records + count * piece_size ≤ keys
  pub placed : (q : ℕ) → q < count → PiecePlaced width w (record_of records q) input spare
  pub member : (q : ℕ) → q < count → members + get_or w (record_of records q) 0 < keys
  pub line : (q : ℕ) → q < count → get_or w (members + get_or w (record_of records q) 0) 0 < length groups

-- what they are, by the workspace as it stood; what stands below them stays
pub record Keyed (width : ℕ) (w' w : List ℕ) (records members keys count : ℕ) (groups input spare : List ℕ) (grid : Grid) : Type 0 where
  pub each : (e : ℕ) → e < count * 2
      → words_at w' keys e ≡ words_for width w (record_of records (e / 2)) (e % 2) members groups input spare grid
  pub kept : (j : ℕ) → j < keys → get_or w' j 0 ≡ get_or w j 0
