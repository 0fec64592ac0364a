-- The part before `from` is written, and the part from there on is read.
use Rattle.point_slices.proofs.Laws.{down_held}
use Rattle.point_slices.proofs.copy_down.Goals as goal

pub returns : goal.returns
returns c =
    let s = c.split_at_mut-front in
    let a = c.args in
    down_held a.w.now c.copy_into.new.dst s.result.0.now s.result.1.now a.from a.at a.n c.requires.0 c.requires.1 s.ensures.front s.ensures.back c.copy_into.ensures
