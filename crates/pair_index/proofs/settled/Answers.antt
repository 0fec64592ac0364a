-- `index::settled` meets its contract: the pair with the end where the directions are one, and else none.
use Rattle.pair_index.proofs.Steps.{settled_one, settled_none}
use Rattle.pair_index.proofs.settled.Goals as goal

pub returns-then-is_point : goal.returns-then-is_point
returns-then-is_point c =
    let a = c.args.a.now in
    settled_one c.args.w.now a.t c.args.n a.d a.ax a.ay a.own c.args.e c.pair_with.ensures c.is_point.ensures c.if-is_point.true

pub returns-else-is_point : goal.returns-else-is_point
returns-else-is_point c =
    let a = c.args.a.now in
    settled_none c.args.w.now a.t c.args.n a.d a.ax a.ay a.own c.args.e c.none.ensures c.is_point.ensures c.if-is_point.false
