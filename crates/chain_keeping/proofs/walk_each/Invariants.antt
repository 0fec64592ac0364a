-- After q turns the entries of the first q pieces stand from `at` on; the lengths are filled in behind them.
use Prim.Native.Nat.{◌≤◌, ◌+◌}
use mathlib.Core.Path.{◌≡◌}
use lib.ListN.{length}
use Rattle.point_slices.specs.Holds.{HoldsFrom}
use Rattle.chain_keeping.specs.Keeping.{entries_of}
use Rattle.chain_keeping.proofs.walk_each.Given as goal

abbrev pub invariant-loop-q : goal.invariant-loop-q
invariant-loop-q l = (l.q ≤ l.m) × (l.at + l.m + l.m ≤ length l.initial.w → HoldsFrom l.w l.initial.w l.at l.q (entries_of l.q)) × (length l.w ≡ length l.initial.w)
