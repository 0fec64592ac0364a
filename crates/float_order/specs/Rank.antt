-- The rank of a float: a whole number by which the numbers of a format are in order. It lies above the sign's weight, or below it, by the bits of the
-- float's magnitude, so that both zeros have one rank. For binary64 it is below 2 ^ 64.
use Rattle.std.specs.Prelude.{ℕ, ◌+◌, ◌-◌, ◌*◌, ◌/◌, ◌^◌, Bool, false, cond, Float}
use Rattle.std.specs.Float.{nan, inf, fin, Format}
use Rattle.std.specs.Float.Ieee.{prec, low, up, down, size, hid, ones, top}

-- the bits of n of the format's smallest values, without a sign
abbrev pub code : Format → ℕ → ℕ
code f n = (size n - prec f) * hid f + n / 2 ^ (size n - prec f)

abbrev pub magnitude : Format → Float → ℕ
magnitude f nan = 0
magnitude f (inf s) = ones f * hid f
magnitude f (fin s m e) = code f (m * up e * 2 ^ low f / down e)

abbrev pub sign : Float → Bool
sign nan = false
sign (inf s) = s
sign (fin s m e) = s

unfoldable pub rank : Format → Float → ℕ
rank f x = cond (sign x) (top f - magnitude f x) (top f + magnitude f x)
