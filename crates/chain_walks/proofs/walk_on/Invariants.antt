-- Forward: between two turns the workspace is `Going`: k entries are written, their pieces are marked, and the walk from here on is what is left of it.
use Rattle.chain_walks.proofs.Go.{Going}
use Rattle.chain_walks.proofs.walk_on.Given as goal

abbrev pub invariant-loop-k : goal.invariant-loop-k
invariant-loop-k l = Going l.initial.w l.n l.first l.at l.w l.e l.k
