-- `any_wild` is the book's test. The loop has passed only ends that are absent or finite, so that the test of what is left is the test of all.
use Prim.Native.Nat.{◌*◌}
use mathlib.Core.Path.{◌≡◌}
use lib.ListN.{drop}
use Rattle.rules.specs.Refusals.{any_wild}
use Rattle.pair_refusals.proofs.any_wild.Given as goal

abbrev pub invariant-loop-e : goal.invariant-loop-e
invariant-loop-e l = any_wild (drop l.e l.present) (drop (l.e * 2) l.directions) ≡ any_wild l.present l.directions
