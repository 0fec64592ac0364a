-- `no_ends` is the book's test, number by number.
use mathlib.Core.Path.{sym, ◌∙◌}
use native.Mathlib.Omega.{arith}
use borrow.Author.Tests.{leb-true, leb-false}
use Rattle.pair_why.proofs.Looking.{first_beyond, second_beyond, both_within}
use Rattle.pair_why.proofs.no_ends.Goals as goal
use Rattle.pair_why.proofs.no_ends.Goals.{then-d-i, else-d-i}

pub returns-then-d-j : goal.returns-then-d-j
returns-then-d-j c =
    let a = c.args in
    elim c.if-d-i.branch [
      | then-d-i w ↦ c.if-d-j.true ∙ sym (first_beyond a.d a.i a.j w.if-d-i.true)
      | else-d-i w ↦ c.if-d-j.true ∙ sym (second_beyond a.d a.i a.j (leb-true a.d a.j (sym w.value-is ∙ c.if-d-j.true)))
    ]

pub returns-else-d-j : goal.returns-else-d-j
returns-else-d-j c =
    let a = c.args in
    elim c.if-d-i.branch [
      | then-d-i w ↦ absurd (omega (arith, leb-false a.d a.i (sym w.value-is ∙ c.if-d-j.false), w.if-d-i.true))
      | else-d-i w ↦ sym (both_within a.d a.i a.j w.if-d-i.false (leb-false a.d a.j (sym w.value-is ∙ c.if-d-j.false)))
    ]
