-- `clean_front`: what is found of the front that ends with the last piece of merged coordinates.
use Rattle.lent_judging.proofs.Front.{clean_short, clean_none, clean_all}
use Rattle.lent_judging.proofs.clean.clean_front.Goals as goal
use Rattle.lent_judging.proofs.clean.clean_front.Goals.{then-merged-numbers-via-then-merged-numbers, then-merged-numbers-via-else-merged-numbers+then-any_nowhere}

pub returns-then-merged-numbers : goal.returns-then-merged-numbers
returns-then-merged-numbers c =
    rw (← c.last_end-end.ensures.0)
    (elim c.then-merged-numbers.branch [
      | then-merged-numbers-via-then-merged-numbers w ↦ clean_short c.args.width c.args.merged.now c.last_end-end.result w.if-merged-numbers.true
      | then-merged-numbers-via-else-merged-numbers+then-any_nowhere w ↦ clean_none c.args.width c.args.merged.now c.last_end-end.result w.if-merged-numbers.false w.any_nowhere.ensures w.if-any_nowhere.true
    ])

pub returns : goal.returns
returns c = rw (← c.last_end-end.ensures.0) (clean_all c.args.width c.args.merged.now c.last_end-end.result c.if-merged-numbers.false c.any_nowhere.ensures c.if-any_nowhere.false)
