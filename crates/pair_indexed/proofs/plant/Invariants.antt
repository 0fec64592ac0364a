use Prim.Native.Nat.{◌*◌}
use mathlib.Core.Path.{◌≡◌}
use Rattle.pair_ends.specs.Blocks.{index_from}
use Rattle.pair_indexed.proofs.Planting.{Planting}
use Rattle.pair_indexed.proofs.plant.Given as goal

abbrev pub invariant-loop-p : goal.invariant-loop-p
invariant-loop-p l = (l.t ≡ l.d * index_from) × Planting l.initial.w l.w l.d l.base l.p
