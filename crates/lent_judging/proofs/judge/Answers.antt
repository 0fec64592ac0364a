-- `judge`: a piece whose frame fails is refused; otherwise it has one line or more, and is judged as such.
use Rattle.std.proofs.Common.{◌≡◌, ◌+◌, ◌*◌, ◌≤◌, subst, sym, length}
use Rattle.lent_laws.specs.Lent.{as_lines, as_pieces}
use Rattle.lent_laws.specs.Passes.{FrameFine}
use Rattle.lent_judging.specs.declared.Record.{Record}
use Rattle.lent_judging.proofs.Pieces.{frame_fine, one_judged, merged_inside, more_refused, more_judged}
use Rattle.lent_judging.proofs.judge.Goals as goal
use Rattle.lent_judging.proofs.judge.Goals.{Else-frame_bad, Else-piece-eq1}

-- the frame is fine
fine : (c : Else-frame_bad) → FrameFine c.args.width (as_lines c.args.lines.now) (as_pieces c.args.pieces.now) c.args.q
fine c = let f = c.frame_bad.ensures.framed c.if-frame_bad.false in frame_fine _ _ _ _ (rw c.record_of-piece.ensures at f)

pub returns-then-piece-eq1 : goal.returns-then-piece-eq1
returns-then-piece-eq1 c =
    let e = c.record_of-piece.ensures in
    one_judged _ _ _ c.requires.judgeable (fine (goal.at.returns-then-piece-eq1 c).Else-frame_bad) (rw e at c.if-piece-eq1.true) (rw e at c.one_bad.ensures)

pub points_bad-requires : goal.points_bad-requires
points_bad-requires c =
    let s = c.requires.judgeable.sized in
    let e = c.record_of-piece.ensures in
    let d = rw e at c.if-piece-eq1.false in
    let inside = merged_inside _ _ _ c.requires.judgeable (fine (goal.at.points_bad-requires c).Else-frame_bad) d in
    (s.two, s.four, subst (λ (r : Record). r.source ≡ 1 → (r.point + r.points) * c.args.width ≤ length c.args.pieces.now.merged.now) (sym e) inside, c.requires.front)

pub returns-then-lines_bad : goal.returns-then-lines_bad
returns-then-lines_bad c =
    let e = c.record_of-piece.ensures in
    rw c.if-lines_bad.true (more_refused _ _ _ c.requires.judgeable (fine (goal.at.returns-then-lines_bad c).Else-frame_bad) (rw e at c.if-piece-eq1.false) (rw e at c.lines_bad.ensures) c.if-lines_bad.true)

pub returns-else-lines_bad : goal.returns-else-lines_bad
returns-else-lines_bad c =
    let e = c.record_of-piece.ensures in
    more_judged _ _ _ c.requires.judgeable (fine (goal.at.returns-else-lines_bad c).Else-frame_bad) (rw e at c.if-piece-eq1.false) (rw e at c.lines_bad.ensures) c.if-lines_bad.false (rw e at c.points_bad.ensures)
