-- `join_nodes` goes from end to end; a node is joined when its leader comes.
use Rattle.chain_nodes.specs.Noded.{Noded}
use Rattle.chain_nodes.proofs.Turns.{Joining}
use Rattle.chain_nodes.proofs.join_nodes.Given as goal

abbrev pub invariant-loop-e : goal.invariant-loop-e
invariant-loop-e l = (y : Noded l.width l.initial.w l.n l.m l.limit l.input l.spare) → Joining y l.w l.e
