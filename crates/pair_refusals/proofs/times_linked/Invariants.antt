-- The word k falls along the chain, so that it is the measure. Places that it passes over are of other buckets and hold other pieces: c and the count among the first k give the count among all.
use Prim.Native.Nat.{◌+◌}
use mathlib.Core.Path.{◌≡◌}
use lib.ListN.{take}
use Rattle.rules.specs.Lists.{count}
use Rattle.pair_refusals.specs.Linked.{LinkedChain}
use Rattle.pair_refusals.proofs.times_linked.Given as goal

abbrev pub invariant-loop-k : goal.invariant-loop-k
invariant-loop-k l = LinkedChain l.pieces l.next l.k l.p × (l.c + count l.p (take l.k l.pieces) ≡ count l.p (take l.from l.pieces))

abbrev pub decreases-loop-k : goal.decreases-loop-k
decreases-loop-k l = l.k
