-- What makes a double the nearest one to a root, on whole numbers.
use Rattle.std.specs.Prelude.{ℕ, ◌+◌, ◌*◌, ◌/◌, ◌^◌, ◌<◌, T, Float}
use Rattle.std.specs.Float.{nan, inf, fin, binary64}
use Rattle.std.specs.Float.Ieee.{up, down, fits}
use Rattle.std.specs.Float.Ieee.Scale.{finite}
use Rattle.std.specs.Float.Ieee.Positive.{positive}

-- how many of a double's smallest values, 2 ^ -1074, a finite double is in size
abbrev pub count : Float → ℕ
count nan = 0
count (inf s) = 0
count (fin s m e) = m * up e * 2 ^ 1074 / down e

-- r is the double nearest to the root of x. In squares of the smallest value, 4 ^ -1074, x is count x * 2 ^ 1074, and r * r is count r * count r.
-- Of every other double y the middle between y and r, (y + r) / 2, is on y's side of the root: squared, it is below x where y is below r, and
-- above x where y is above r. Both are strict: there is no tie.
pub record Nearest (x r : Float) : Type 0 where
  pub held : T (fits binary64 r)
  pub above_zero : T (positive r)
  pub under : (y : Float) → T (fits binary64 y) → T (finite y) → count y < count r
      → (count y + count r) * (count y + count r) < 4 * (count x * 2 ^ 1074)
  pub over : (y : Float) → T (fits binary64 y) → T (finite y) → count r < count y
      → 4 * (count x * 2 ^ 1074) < (count y + count r) * (count y + count r)
