-- Measures as keys of 64 binary digits, so that a search compares whole numbers. A NaN's key is the greatest, since it never qualifies; a bound
-- that is a NaN has the least key, since it rules nothing out.
use Rattle.std.specs.Prelude.{ℕ, ◌-◌, ◌^◌, cond, Float}
use Rattle.std.specs.Float.{binary64}
use Rattle.std.specs.Float.Ieee.{is_nan}
use Rattle.float_order.specs.Rank.{rank}

abbrev pub key_nan : ℕ
key_nan = 2 ^ 64 - 1

unfoldable pub key : Float → ℕ
unfolding rank
key x = cond (is_nan x) key_nan (rank binary64 x)

unfoldable pub low_key : Float → ℕ
unfolding rank
low_key x = cond (is_nan x) 0 (rank binary64 x)
