-- What is counted and what is left are the members of the walk (`Counting`).
use Prim.Native.Nat.{◌+◌}
use Rattle.chain_merging.specs.Emit.{Counted}
use Rattle.chain_merging.proofs.Counting.{Counting}
use Rattle.chain_merging.proofs.count_members.Given as goal

abbrev pub invariant-loop-e : goal.invariant-loop-e
invariant-loop-e l = (y : Counted l.w l.old l.from l.to) → Counting l.w l.old l.from l.to y l.r (l.from + l.e-index)
