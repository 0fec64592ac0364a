-- The order of a number's bytes, by the byte that tells it.
use Rattle.std.specs.Prelude.{ℕ, List, reverse, ◌==◌, if◌then◌else◌}
use Rattle.rules.specs.Wkb.{little}
use Rattle.wkb_records.specs.declared.Order.{Order}
use Rattle.wkb_records.specs.declared.Order.TheVariants.{Big, Little}

abbrev pub order_of : ℕ → Order
order_of n = if n == 0 then Big else Little

abbrev pub byte_of : Order → ℕ
byte_of Big = 0
byte_of Little = 1

-- the number that bytes stand for in an order
unfoldable pub number_in : Order → List ℕ → ℕ
number_in Big l = little (reverse l)
number_in Little l = little l
