-- `last_end`: behind the first q records none has merged coordinates; so the last of those is the last of all.
use Rattle.std.proofs.Common.{◌≡◌, ◌-◌, ◌*◌, ◌+◌, sym, ap, ◌∙◌, arith}
use Rattle.lent_judging.specs.Front.{last_end}
use Rattle.lent_judging.proofs.Front.{last_start, last_input, last_merged}
use Rattle.lent_judging.proofs.clean.last_end.Goals as goal

pub returns-then-pieces-at-ne0 : goal.returns-then-pieces-at-ne0
returns-then-pieces-at-ne0 c =
    let at = (c.loop-q.q - 1) * 5 in
    (last_merged c.args.pieces.now c.loop-q.q c.loop-q-test.true c.if-pieces-at-ne0.true ∙ c.loop-q.invariant.1, omega (arith, c.type_inv.pieces (at + 3), c.type_inv.pieces (at + 4)))

pub loop-q-preserved : goal.loop-q-preserved
loop-q-preserved c = (omega arith, last_input c.args.pieces.now c.loop-q.q c.loop-q-test.true c.if-pieces-at-ne0.false ∙ c.loop-q.invariant.1)

pub returns : goal.returns
returns c =
    let z : c.loop-q.q ≡ 0 = omega arith in
    (sym (last_start c.args.pieces.now) ∙ ap (last_end c.args.pieces.now) (sym z) ∙ c.loop-q.invariant.1, omega arith)
