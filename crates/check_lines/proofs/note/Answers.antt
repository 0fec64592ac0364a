-- The marks are how often each line was listed so far.
use native.Mathlib.Omega.{arith}
use mathlib.Core.Path.{sym}
use mathlib.Core.Bool.{true≢false}
use lib.ListN.{get_or}
use Rattle.check_lines.proofs.Once.{noting_start, noting_next, noting_twice}
use Rattle.check_lines.proofs.note.Goals as goal

pub loop-y-init : goal.loop-y-init
loop-y-init c = noting_start c.args.seen.now c.args.listed.now (omega arith)

pub returns-then-seen-y : goal.returns-then-seen-y
returns-then-seen-y c =
    let o = c.loop-y in
    let b = c.requires o.y-index (omega arith) in
    record {
      added = λ e. absurd (true≢false (sym e));
      twice = λ e. (get_or c.args.listed.now o.y-index 0, b, noting_twice o.seen c.args.seen.now c.args.listed.now o.y-index o.invariant (omega arith) b c.if-seen-y.true);
    }

pub loop-y-preserved : goal.loop-y-preserved
loop-y-preserved c =
    let o = c.loop-y in
    noting_next o.seen c.args.seen.now c.args.listed.now o.y-index o.invariant (omega arith) (c.requires o.y-index (omega arith)) c.if-seen-y.false
