-- Between two entries the runs laid and those that are left make the whole walk (`Laying`).
use Prim.Native.Nat.{◌+◌}
use Rattle.chain_merging.specs.Emit.{Mergeable}
use Rattle.chain_merging.proofs.Coordinates.{Laying}
use Rattle.chain_merging.proofs.append_walk.Given as goal

abbrev pub invariant-loop-e : goal.invariant-loop-e
invariant-loop-e l = (y : Mergeable l.width l.w l.old l.from l.to l.input l.spare l.initial.merged l.at) → Laying l.width l.w l.old l.from l.to l.input l.spare l.initial.merged l.at y l.merged l.have (l.from + l.e-index)
