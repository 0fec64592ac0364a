-- The numbers that are looked at are the first point's x and y and the last one's, and so the tests are the book's.
use Rattle.point_numbers.proofs.Loops.{too_few, mark_y, mark_x}
use Rattle.point_numbers.proofs.loop_mark.Goals as goal
use Rattle.point_numbers.proofs.loop_mark.Goals.{then-part-last, else-part-last}

pub returns-then-count-lt3 : goal.returns-then-count-lt3
returns-then-count-lt3 c = too_few _ _ c.requires c.if-count-lt3.true

pub returns : goal.returns
returns c =
    let a = c.args in
    let h = c.if-count-lt3.false in
    elim c.if-part-last.branch [
      | then-part-last w ↦ mark_y a.width a.part.now c.requires h c.if-part-last.result w.if-part-last.true w.result-is
      | else-part-last w ↦ mark_x a.width a.part.now c.requires h c.if-part-last.result w.if-part-last.false w.result-is
    ]
