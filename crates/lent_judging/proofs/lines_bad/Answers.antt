-- `lines_bad`: members are noted, then the listing; what is found is what the laws of the two notings give.
use Rattle.std.proofs.Common.{sym, ◌∙◌, arith}
use borrow.Author.Tests.{leb-false}
use Rattle.lent_judging.proofs.Lines.{lines_far, lines_unfit, lines_judged}
use Rattle.lent_judging.proofs.lines_bad.Goals as goal
use Rattle.lent_judging.proofs.lines_bad.Goals.{then-lines-first, else-lines-first}

pub returns-then-not-note_members : goal.returns-then-not-note_members
returns-then-not-note_members c =
    rw c.if-not-note_members.true
    (elim c.if-lines-first.branch [
      | then-lines-first w ↦ lines_far c.requires.lent w.if-lines-first.true
      | else-lines-first w ↦ lines_unfit c.requires.lent w.note_members.ensures (sym w.value-is ∙ c.if-not-note_members.true)
    ])

pub returns-else-not-note_members : goal.returns-else-not-note_members
returns-else-not-note_members c =
    elim c.if-lines-first.branch [
      | then-lines-first w ↦ absurd (omega (arith, leb-false _ _ (sym w.value-is ∙ c.if-not-note_members.false)))
      | else-lines-first w ↦
          let l = rw w.seen-is at c.note_listing.ensures in
          lines_judged c.requires.lent w.note_members.ensures (sym w.value-is ∙ c.if-not-note_members.false) l
    ]
