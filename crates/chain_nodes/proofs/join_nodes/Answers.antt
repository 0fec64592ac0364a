use Rattle.std.proofs.Common.{arith}
use Rattle.chain_nodes.proofs.Frames.{noded_kept, noded_same}
use Rattle.chain_nodes.proofs.Turns.{joining_start, joining_step, joining_done}
use Rattle.chain_nodes.proofs.join_nodes.Goals as goal

pub loop-e-init : goal.loop-e-init
loop-e-init c = λ y. joining_start y

pub join_node-requires : goal.join_node-requires
join_node-requires c = (noded_same c.requires (c.loop-e.invariant c.requires), c.loop-e-test.true)

pub loop-e-preserved : goal.loop-e-preserved
unfolding noded_kept
loop-e-preserved c = λ y. joining_step y c.loop-e.e (c.loop-e.invariant y) (c.join_node.ensures (noded_same y (c.loop-e.invariant y)))

pub returns : goal.returns
returns c = λ y. joining_done y c.loop-e.e (c.loop-e.invariant y) (omega arith)
