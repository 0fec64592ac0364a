-- A float kept as a number: its 64 bits. A NaN, which has no bits of its own, is kept as the pattern that lib.Ieee writes for it.
use Rattle.std.specs.Prelude.{ℕ, Float}
use Rattle.std.specs.Float.{binary64}
use Rattle.std.specs.Float.Ieee.{to_bits}

unfoldable pub bits_of : Float → ℕ
unfolding to_bits
bits_of x = to_bits binary64 x
