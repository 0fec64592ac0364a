-- The lengths add up to n exactly if nothing is left when they are taken from it one by one.
use mathlib.Core.Path.{◌≡◌}
use Prim.Native.Nat.{◌+◌, ◌≤◌}
use lib.ListN.{drop}
use Rattle.rules.specs.Lists.{total}
use Rattle.wkb_reading.proofs.adds_up.Given as goal

abbrev pub invariant-loop-next : goal.invariant-loop-next
invariant-loop-next l = (l.left ≤ l.n) × (l.left + total l.lengths ≡ l.n + total (drop l.next-index l.lengths))
