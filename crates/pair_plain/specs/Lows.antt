-- The least of some keys, and the least keys of blocks of rows. In the workspace a row's key stands in the region from 6 d on, a block's least key and the row
-- that has it in those from 8 d and 9 d on.
use Rattle.std.specs.Prelude.{ℕ, ◌+◌, ◌*◌, ◌/◌, ◌≤◌, ◌<◌, ◌≡◌, Bool, true, false, cond, min, Option, Some, None, List, ltb, get_or, set}
use Rattle.float_order.specs.Key.{key_nan}
use Rattle.pair_ends.specs.Blocks.{row_keys_from, lows_from, tops_from}
use Rattle.pair_plain.specs.declared.Low.{Low}

unfoldable pub lesser_of : Low → ℕ → ℕ → Low
lesser_of low key place = cond (ltb key low.key) (record { key = key; place = place }) low

-- the keys from `from` to `to` of the region at `at` have this least one; of equals it is the first, and where there is none but of rows that hold no pair,
-- it is theirs
pub record IsLow (w : List ℕ) (at from to : ℕ) (low : Low) : Type 0 where
  pub least : (x : ℕ) → from ≤ x → x < to → low.key ≤ get_or w (at + x) 0
  pub first : (x : ℕ) → from ≤ x → x < to → low.key < key_nan → get_or w (at + x) 0 ≡ low.key → low.place ≤ x
  pub there : low.key < key_nan → (from ≤ low.place) × (low.place < to) × (get_or w (at + low.place) 0 ≡ low.key)

-- the two words of a least key: itself and its place, or the greatest key and 0 where there is none
abbrev pub low_words : Option Low → Low
low_words None = record { key = key_nan; place = 0 }
low_words (Some low) = low

abbrev pub blocks_of : ℕ → ℕ
blocks_of d = (d + 15) / 16

unfoldable pub upper_of : ℕ → ℕ → ℕ
upper_of d b = min (b * 16 + 16) d

abbrev pub low_at : List ℕ → ℕ → ℕ → Low
low_at w d b = record { key = get_or w (d * lows_from + b) 0; place = get_or w (d * tops_from + b) 0 }

-- block b is settled: its least key stands where it is looked for
pub record LowsSettled (w : List ℕ) (d b : ℕ) (w' : List ℕ) : Type 0 where
  pub low : Low
  pub is : IsLow w (d * row_keys_from) (b * 16) (upper_of d b) low
  pub list : w' ≡ set (set w (d * lows_from + b) low.key) (d * tops_from + b) low.place

-- the block of row i is settled, where rows stand in blocks; where they do not, nothing is
abbrev pub RowSettled : Bool → List ℕ → ℕ → ℕ → List ℕ → Type 0
RowSettled true w d i w' = LowsSettled w d (i / 16) w'
RowSettled false w d i w' = w' ≡ w

-- the blocks of which P says so have their least key there
abbrev pub Lows : List ℕ → ℕ → (ℕ → Type 0) → Type 0
Lows w d P = (b : ℕ) → b < blocks_of d → P b → IsLow w (d * row_keys_from) (b * 16) (upper_of d b) (low_at w d b)

abbrev pub all : ℕ → Type 0
all b = Unit {0}
