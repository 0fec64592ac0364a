-- `index::reach` meets its contract: no place where the node is empty, and else the low key of its lower measure.
use Rattle.pair_index.specs.Nodes.{node_at}
use Rattle.pair_index.specs.Search.{round_at}
use Rattle.pair_index.proofs.Steps.{bound_none, bound_is}
use Rattle.pair_index.proofs.reach.Goals as goal

pub returns-then-b : goal.returns-then-b
returns-then-b c =
    let a = c.args.a.now in
    bound_none (round_at c.args.w.now a.d) a.ax a.ay c.node-b.result (node_at c.args.w.now a.t c.args.n) c.node-b.ensures _ c.if-b.true c.none.ensures

pub returns : goal.returns
unfolding round_at
returns c =
    let a = c.args.a.now in
    bound_is (round_at c.args.w.now a.d) a.ax a.ay c.node-b.result (node_at c.args.w.now a.t c.args.n) c.node-b.ensures _ _
    c.if-b.false c.lower_measure.ensures c.low_key.ensures
