-- `note_listing`: the first i lines of the listing had the mark 1, each once, and have 2.
use Rattle.std.proofs.Common.{sym, arith}
use mathlib.Core.Bool.{true≢false}
use Rattle.lent_noting.proofs.Marks.{stepping_start, stepping_next, listing_far, listing_other}
use Rattle.lent_noting.proofs.note_listing.Goals as goal
use Rattle.lent_noting.proofs.note_listing.Goals.{then-y-ge-MOST_LINES-via-then-y-ge-MOST_LINES, then-y-ge-MOST_LINES-via-else-y-ge-MOST_LINES+then-seen-y-ne1}

pub loop-line-init : goal.loop-line-init
loop-line-init c = stepping_start c.args.seen.now c.args.listing.now 1 c.requires

pub returns-then-y-ge-MOST_LINES : goal.returns-then-y-ge-MOST_LINES
returns-then-y-ge-MOST_LINES c =
    record {
      awaited = λ e. absurd (true≢false (sym e));
      risen = λ e. absurd (true≢false (sym e));
      foreign = λ e.
          elim c.then-y-ge-MOST_LINES.branch [
            | then-y-ge-MOST_LINES-via-then-y-ge-MOST_LINES w ↦ listing_far c.loop-line.invariant (omega arith) (omega arith)
            | then-y-ge-MOST_LINES-via-else-y-ge-MOST_LINES+then-seen-y-ne1 w ↦ listing_other c.loop-line.invariant (omega arith) (omega arith) w.if-seen-y-ne1.true
          ];
    }

pub loop-line-preserved : goal.loop-line-preserved
loop-line-preserved c = stepping_next c.loop-line.invariant (omega arith) (omega arith) c.if-seen-y-ne1.false
