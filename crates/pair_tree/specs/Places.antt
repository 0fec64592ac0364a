-- A place as one number: places are in order as these are.
use Rattle.std.specs.Prelude.{ℕ}
use Rattle.pair_bounds.specs.Search.{place}
use Rattle.pair_tree.specs.declared.Place.{Place}

abbrev pub worth : Place → ℕ
worth p = place p.key p.tie

-- the greatest number of a word: the index of no end
abbrev pub gone : ℕ
gone = 18446744073709551615

-- the place after all others
unfoldable pub none : ℕ
none = place gone gone
