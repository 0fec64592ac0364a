-- The first free pair of a row. In the workspace a mark stands for each end: 0 if it is free.
use Rattle.std.specs.Prelude.{ℕ, ◌+◌, ◌*◌, ◌<◌, ◌≡◌, Bool, true, false, List, Option, Some, None, Float, get_or}
use Rattle.std.proofs.Math.Seq.{slice}
use Rattle.rules.specs.Refusals.{limit_bad}
use Rattle.float_order.specs.Key.{key_nan, key}
use Rattle.pair_laws.specs.Ranked.{RankedPair}
use Rattle.pair_laws.specs.Taking.{used_of, IsFirst}
use Rattle.pair_laws.specs.Ends.{node_of}
use Rattle.pair_ends.specs.Blocks.{marks_from, row_keys_from}
use Rattle.pair_ends.specs.Ends.{EndsRoom, direction_at, ends_in}
use Rattle.pair_first_of_end.specs.declared.Near.{Near}
use Rattle.pair_first_of_end.specs.declared.Held.{Held}
use Rattle.pair_first_of_end.specs.Near.{numbered}

abbrev pub mark_at : List ℕ → ℕ → ℕ → ℕ
mark_at w d e = get_or w (d * marks_from + e) 0

abbrev pub used_in : List ℕ → ℕ → ℕ → Bool
used_in w d = used_of (slice (d * marks_from) (d * row_keys_from) w)

-- the two words of what a row holds: the key and the partner of a pair; where it holds none, the greatest key and 0
abbrev pub held_words : Option Held → Held
held_words None = record { key = key_nan; partner = 0 }
held_words (Some held) = held

-- what was seen of a row, and what the row then holds
abbrev pub held_by : Option ℕ → ℕ → Held
held_by None k = record { key = key_nan; partner = 0 }
held_by (Some j) k = record { key = k; partner = j }

abbrev pub held_of : Near → Held
held_of near = held_by near.partner (key near.measure)

abbrev pub pair_of : ℕ → Held → RankedPair
pair_of i held = record { key = held.key; i = i; j = held.partner }

-- what a walk along row i asks: an admitted limit, and that each free end has a direction of two numbers
pub record RowReady (w : List ℕ) (d : ℕ) (limit : Float) (i : ℕ) : Type 0 where
  pub room : EndsRoom w d
  pub row : i < d
  pub admitted : limit_bad limit ≡ false
  pub free : (e : ℕ) → e < d → mark_at w d e ≡ 0 → numbered (direction_at w d e) ≡ true

pub record First (w : List ℕ) (d : ℕ) (limit : Float) (i : ℕ) (held : Held) : Type 0 where
  pub pair : IsFirst (node_of (ends_in w d)) (key limit) (used_in w d) i (pair_of i held)
  pub none : held.partner ≡ 0 → held.key ≡ key_nan
