-- After q turns the first q pieces are chains of the table: `Chaining` says how, and its laws are the start, one piece more, and the end.
use native.Mathlib.Omega.{arith}
use Rattle.build_layout.proofs.Chaining.{chaining_start, part_there, chaining_more}
use Rattle.build_layout.proofs.lay_pieces.Goals as goal

pub loop-q-init : goal.loop-q-init
loop-q-init c =
    let a = c.args in
    λ y. chaining_start y.counts y.ps a.p a.table.now

pub coordinates_of-part-requires : goal.coordinates_of-part-requires
coordinates_of-part-requires c =
    let y = c.requires in
    part_there y (c.loop-q.invariant y) (omega arith)

pub loop-q-preserved : goal.loop-q-preserved
loop-q-preserved c =
    λ y. chaining_more y (c.loop-q.invariant y) (omega arith) c.lay_words.ensures c.coordinates_of-part.ensures c.loop_mark.ensures
