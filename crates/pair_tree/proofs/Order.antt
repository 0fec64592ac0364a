-- Places are in order as their numbers are: what the derived `<`, `==` and `min` answer, said of those numbers.
use Prim.Native.Nat.{◌≤◌, min}
use mathlib.Core.Path.{◌≡◌}
use mathlib.Core.Bool.{◌&&◌}
use native.Mathlib.Omega.{arith}
use lib.Dec.{ltb, eqb}
use Rattle.std.specs.Ordering.{partial_lt, ord_min}
use Rattle.std.proofs.lemmas.Grind.{common_steps}
use Rattle.pair_tree.specs.declared.Place.{Place}
use Rattle.pair_tree.specs.contracts.PlacePartialOrd.TheImpl as order
use Rattle.pair_tree.specs.contracts.PlaceOrd.TheImpl as total
use Rattle.pair_tree.specs.Places.{gone, worth}

module _ (a b : Place) (p : a.tie ≤ gone) (q : b.tie ≤ gone) where
  pub less_is : partial_lt order.partial_cmp-value.it a b ≡ ltb (worth a) (worth b)
  less_is = grind (arith, common_steps)

  pub same_is : (eqb a.key b.key && eqb a.tie b.tie) ≡ eqb (worth a) (worth b)
  same_is = grind (arith, common_steps)

  pub min_is : worth (ord_min total.cmp-value.it a b) ≡ min (worth a) (worth b)
  min_is = grind (arith, common_steps)
