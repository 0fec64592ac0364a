-- `note_members`: the first i lines are plain, of the group and without a mark before, each once, and have 1; so a line met again has a mark.
use Rattle.std.proofs.Common.{sym, arith}
use mathlib.Core.Bool.{true≢false}
use Rattle.lent_noting.proofs.Marks.{noting_start, noting_stale, noting_mixed, noting_above, noting_next}
use Rattle.lent_noting.proofs.note_members.Goals as goal
use Rattle.lent_noting.proofs.note_members.Goals.{then-not-is_fresh-via-then-not-is_fresh, then-not-is_fresh-via-else-not-is_fresh+then-groups-y, then-not-is_fresh-via-else-not-is_fresh+else-groups-y+then-marks-i-gt1}

pub loop-i-init : goal.loop-i-init
loop-i-init c = noting_start c.args.seen.now c.args.counts.now c.args.groups.now c.args.kinds.now c.args.group c.args.lines.now c.args.marks.now c.requires.0

pub returns-then-not-is_fresh : goal.returns-then-not-is_fresh
returns-then-not-is_fresh c =
    let n = c.loop-i.invariant in
    let few = c.requires.1.few in
    record {
      fit = λ e. absurd (true≢false (sym e));
      risen = λ e. absurd (true≢false (sym e));
      unfit = λ e.
          elim c.then-not-is_fresh.branch [
            | then-not-is_fresh-via-then-not-is_fresh w ↦ noting_stale n few (omega arith) c.is_fresh.ensures w.if-not-is_fresh.true
            | then-not-is_fresh-via-else-not-is_fresh+then-groups-y w ↦ noting_mixed n few (omega arith) w.if-groups-y.true
            | then-not-is_fresh-via-else-not-is_fresh+else-groups-y+then-marks-i-gt1 w ↦ noting_above n few (omega arith) c.requires.2 w.if-marks-i-gt1.true
          ];
    }

pub loop-i-preserved : goal.loop-i-preserved
loop-i-preserved c = noting_next c.loop-i.invariant c.requires.1.few (omega arith) c.is_fresh.ensures c.if-not-is_fresh.false c.if-groups-y.false (omega arith)
