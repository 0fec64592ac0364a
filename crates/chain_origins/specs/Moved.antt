-- A coordinate and an origin, both moved by one distance. A finite double is counted in units of 2 ^ -1074, of which it has a whole number: `over` where
-- it is above zero, `under` where it is below.
use Rattle.std.specs.Prelude.{◌+◌, ◌≡◌, T, Float}
use Rattle.std.specs.Float.{binary64}
use Rattle.std.specs.Float.Ieee.{fits}
use Rattle.std.specs.Float.Ieee.Scale.{finite}
use Rattle.float_order.proofs.Near.{over, under}

-- a double that is a place
pub record Place (x : Float) : Type 0 where
  pub held : T (fits binary64 x)
  pub somewhere : T (finite x)

-- x' lies from o' as x lies from o: x - o is x' - o', exactly
pub record Moved (x o x' o' : Float) : Type 0 where
  pub coordinate : Place x
  pub origin : Place o
  pub coordinate' : Place x'
  pub origin' : Place o'
  pub distance : over x + under o + (under x' + over o') ≡ over x' + under o' + (under x + over o)
