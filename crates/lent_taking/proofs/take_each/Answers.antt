-- `take_each`: the first q pieces are taken, each behind those before it.
use Rattle.lent_taking.proofs.Steps.{took_start, piece_takable, took_next}
use Rattle.lent_taking.proofs.take_each.Goals as goal

pub loop-q-init : goal.loop-q-init
loop-q-init c = let p = c.args.pieces.now in took_start c.args.w.now c.args.n p.records.now p.members.now p.marks.now p.listing.now

pub take_piece-m-requires : goal.take_piece-m-requires
take_piece-m-requires c = piece_takable c.requires c.loop-q.invariant c.loop-q-test.true

pub loop-q-preserved : goal.loop-q-preserved
loop-q-preserved c = took_next c.requires c.loop-q.invariant c.loop-q-test.true c.take_piece-m.ensures
