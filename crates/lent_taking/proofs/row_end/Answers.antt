-- `row_end`: the first q are in a row, and their members end where the next have to begin; one that begins elsewhere ends the row for all behind it.
use Rattle.std.proofs.Common.{sym, ◌∙◌, ◌*◌, ◌+◌, arith}
use Rattle.lent_taking.proofs.Row.{row_start, end_start, end_next, row_next, row_off}
use Rattle.lent_taking.proofs.row_end.Goals as goal

pub loop-q-init : goal.loop-q-init
loop-q-init c = (sym (end_start c.args.records.now), row_start c.args.records.now, omega arith)

pub returns-then-records-q : goal.returns-then-records-q
returns-then-records-q c = sym (row_off c.args.records.now c.loop-q.q c.args.k c.loop-q-test.true c.loop-q.invariant.1 (λ e. c.if-records-q.true (e ∙ sym c.loop-q.invariant.0)))

pub loop-q-preserved : goal.loop-q-preserved
loop-q-preserved c =
    let q = c.loop-q.q in (
      omega (arith, end_next c.args.records.now q, c.if-records-q.false),
      row_next c.args.records.now q c.loop-q.invariant.1 (c.if-records-q.false ∙ c.loop-q.invariant.0),
      omega (arith, c.if-records-q.false, c.type_inv.records (q * 5), c.type_inv.records (q * 5 + 1)),
    )
