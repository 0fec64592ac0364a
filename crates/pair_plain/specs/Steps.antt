-- What the steps of the plain route leave of a workspace.
use Rattle.std.specs.Prelude.{ℕ, ◌+◌, ◌*◌, ◌≤◌, ◌<◌, ◌≡◌, true, false, not, ◌⊎◌, List, Float, get_or, set}
use Rattle.rules.specs.Lists.{one}
use Rattle.rules.specs.Refusals.{limit_bad}
use Rattle.float_order.specs.Key.{key_nan}
use Rattle.pair_ends.specs.Blocks.{pairs_from, marks_from, row_keys_from, partners_from, lows_from, tops_end}
use Rattle.pair_ends.specs.Ends.{EndsRoom, direction_at}
use Rattle.pair_first_of_end.specs.declared.Held.{Held}
use Rattle.pair_first_of_end.specs.Near.{numbered}
use Rattle.pair_first_of_end.specs.Row.{mark_at, First}
use Rattle.pair_plain.specs.Lows.{Lows, all}

-- before a and from b on w' is as w
abbrev pub Outside : ℕ → ℕ → List ℕ → List ℕ → Type 0
Outside a b w w' = (x : ℕ) → (x < a) ⊎ (b ≤ x) → get_or w' x 0 ≡ get_or w x 0

-- what row i holds
abbrev pub held_at : List ℕ → ℕ → ℕ → Held
held_at w d i = record { key = get_or w (d * row_keys_from + i) 0; partner = get_or w (d * partners_from + i) 0 }

abbrev pub mark_of : List ℕ → ℕ → ℕ → ℕ
mark_of w d e = one (not (numbered (direction_at w d e)))

-- an end is marked exactly if it has no direction of two numbers
pub record Marked (w : List ℕ) (d : ℕ) (w' : List ℕ) : Type 0 where
  pub marks : (e : ℕ) → e < d → mark_at w' d e ≡ mark_of w d e
  pub others : Outside (d * marks_from) (d * row_keys_from) w w'

-- each row may be walked along
pub record Playable (w : List ℕ) (d : ℕ) (limit : Float) : Type 0 where
  pub room : EndsRoom w d
  pub admitted : limit_bad limit ≡ false
  pub free : (e : ℕ) → e < d → mark_at w d e ≡ 0 → numbered (direction_at w d e) ≡ true

-- row i holds its first free pair
pub record Renewed (w : List ℕ) (d : ℕ) (limit : Float) (i : ℕ) (w' : List ℕ) : Type 0 where
  pub held : Held
  pub first : First w d limit i held
  pub list : w' ≡ set (set w (d * row_keys_from + i) held.key) (d * partners_from + i) held.partner

-- the rows below k do
pub record Rows (w : List ℕ) (d : ℕ) (limit : Float) (k : ℕ) (w' : List ℕ) : Type 0 where
  pub first : (i : ℕ) → i < k → First w d limit i (held_at w' d i)
  pub others : Outside (d * row_keys_from) (d * lows_from) w w'

-- every block is settled
pub record Levelled (w : List ℕ) (d : ℕ) (w' : List ℕ) : Type 0 where
  pub lows : Lows w' d all
  pub others : Outside (d * lows_from) (d * tops_end) w w'

-- two words are x and y
abbrev pub both : List ℕ → ℕ → ℕ → ℕ → ℕ → List ℕ
both w a b x y = set (set w a x) b y

-- pair n is (i, j): it is listed, its ends are marked, and their rows hold none
abbrev pub listed_in : List ℕ → ℕ → ℕ → ℕ → ℕ → List ℕ
listed_in w d n i j = both w (d * pairs_from + n * 2) (d * pairs_from + n * 2 + 1) i j

abbrev pub marked_in : List ℕ → ℕ → ℕ → ℕ → List ℕ
marked_in w d i j = both w (d * marks_from + i) (d * marks_from + j) 1 1

abbrev pub taken_from : List ℕ → ℕ → ℕ → ℕ → ℕ → List ℕ
taken_from w d n i j = both (marked_in (listed_in w d n i j) d i j) (d * row_keys_from + i) (d * row_keys_from + j) key_nan key_nan
