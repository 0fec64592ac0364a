-- The words of the keys of a piece's two ends.
use Rattle.std.specs.Prelude.{ℕ}

abbrev pub both_keys : ℕ
both_keys = 6
