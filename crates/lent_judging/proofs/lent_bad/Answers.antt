-- `lent_bad`: the first q pieces pass, their lines are marked, and the sum is that of their coordinates, not above c. After the last a plain line without a
-- mark refuses them all.
use Rattle.std.proofs.Common.{◌*◌, ◌≤◌, length, arith}
use Rattle.lent_laws.specs.Lent.{as_lines, as_pieces}
use Rattle.lent_judging.proofs.Front.{clean_told}
use Rattle.lent_judging.proofs.All.{counted_start, records_leave, sum_start, sum_next, too_many, piece_refused, all_judged}
use Rattle.lent_judging.proofs.lent_bad.Goals as goal
use Rattle.lent_judging.proofs.lent_bad.Goals.{Else-pieces}

-- the records are lent whole
inside : (c : Else-pieces) → c.args.pieces.now.number * 5 ≤ length c.args.pieces.now.records.now
inside c = omega arith

pub returns-then-pieces : goal.returns-then-pieces
returns-then-pieces c = records_leave c.args.width (as_lines c.args.lines.now) (as_pieces c.args.pieces.now) (omega arith)

pub loop-q-init : goal.loop-q-init
loop-q-init c = (counted_start c.args.width (as_lines c.args.lines.now) (as_pieces c.args.pieces.now), sum_start c.args.width (as_lines c.args.lines.now) (as_pieces c.args.pieces.now), omega arith)

pub judge-requires-clause-front : goal.judge-requires-clause-front
judge-requires-clause-front c = clean_told _ _ _ c.requires.two c.clean_front-clean.ensures

pub returns-then-judge : goal.returns-then-judge
returns-then-judge c = piece_refused _ _ _ c.judge.ensures c.if-judge.true

pub returns-then-c-sum : goal.returns-then-c-sum
returns-then-c-sum c = too_many _ _ _ c.loop-q.q c.loop-q.sum (omega arith) c.loop-q.invariant.1 (omega (arith, c.place_lines-c.ensures.0))

pub loop-q-preserved : goal.loop-q-preserved
loop-q-preserved c =
    (c.judge.ensures.passed c.if-judge.false, sum_next c.args.width (as_lines c.args.lines.now) (as_pieces c.args.pieces.now) c.loop-q.q c.loop-q.sum c.loop-q.invariant.1, c.if-c-sum.false)

pub returns : goal.returns
returns c =
    all_judged c.args.width (as_lines c.args.lines.now) (as_pieces c.args.pieces.now) c.all_noted.result c.requires c.loop-q.invariant.0 (omega arith)
    (inside (goal.at.returns c).Else-pieces) (omega (arith, c.loop-q.invariant.1, c.loop-q.invariant.2, c.place_lines-c.ensures.0)) c.all_noted.ensures
