-- `index::is_point` meets its contract: both sides of the box are looked at.
use Rattle.pair_index.proofs.Steps.{point_first, point_second}
use Rattle.pair_index.proofs.is_point.Goals as goal

pub returns-then-w-k : goal.returns-then-w-k
returns-then-w-k c = let a = c.args in point_second a.w.now a.t a.n c.if-w-k.true

pub returns-else-w-k : goal.returns-else-w-k
returns-else-w-k c = let a = c.args in point_first a.w.now a.t a.n c.if-w-k.false
