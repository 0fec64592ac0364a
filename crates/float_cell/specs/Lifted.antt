-- An `i64` as a number of 64 binary digits, by which a table holds a cell.
use Rattle.std.specs.Prelude.{ℕ, ◌+◌, ◌-◌, ◌^◌, ℤ, pos, negsuc}

-- 2 ^ 63 more, for an integer from -(2 ^ 63) on: -1 is `negsuc 0`
abbrev pub lifted : ℤ → ℕ
lifted (pos n) = n + 2 ^ 63
lifted (negsuc n) = 2 ^ 63 - 1 - n
