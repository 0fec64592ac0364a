-- The refusal of the run is that of the records that are left, which begin at `at`.
use mathlib.Core.Path.{sym, ap, ◌∙◌}
use native.Mathlib.Omega.{arith}
use Rattle.rules.specs.Answers.{found}
use Rattle.build_refusals.proofs.Found.{no_none, handed_on}
use Rattle.wkb_reading.proofs.Laws.{total_drop, stops, passes, nothing_refused}
use Rattle.wkb_reading.proofs.records_refusal.Goals as goal

pub overflow_add-to : goal.overflow_add-to
overflow_add-to c = omega (arith, total_drop c.args.lengths.now c.loop-next.next-index c.loop-next-test.true)

pub slice_bounds-record_refusal-end : goal.slice_bounds-record_refusal-end
slice_bounds-record_refusal-end c = omega (arith, total_drop c.args.lengths.now c.loop-next.next-index c.loop-next-test.true)

pub returns-in_err-record_refusal : goal.returns-in_err-record_refusal
returns-in_err-record_refusal c =
    let a = c.args in
    let o = c.loop-next in
    let r = c.in_err-record_refusal.field-0.0 in
    handed_on c.from_residual.result r c.from_residual.ensures.1
    ∙ stops a.wkb_type a.lengths.now a.run.now o.next-index o.at _ _ c.loop-next-test.true o.invariant.1 c.in_err-record_refusal.ensures (no_none r)

pub loop-next-preserved : goal.loop-next-preserved
loop-next-preserved c =
    let a = c.args in
    let o = c.loop-next in (
      omega (arith, total_drop a.lengths.now o.next-index c.loop-next-test.true),
      passes a.wkb_type a.lengths.now a.run.now o.next-index o.at _ _ c.loop-next-test.true o.invariant.1 c.record_refusal.ensures (ap found c.in_ok-record_refusal.was),
    )

pub returns : goal.returns
returns c = let a = c.args in let o = c.loop-next in sym (o.invariant.1 ∙ nothing_refused a.wkb_type a.lengths.now _ o.next-index c.loop-next-test.false)
