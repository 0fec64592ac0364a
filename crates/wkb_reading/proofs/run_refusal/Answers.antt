-- The lengths are tested first; then the refusal is that of the first bad record.
use mathlib.Core.Path.{sym, ap, ◌∙◌}
use Prim.Native.Nat.{ℕ}
use borrow.Author.Tests.{eqb-true}
use Rattle.rules.specs.Wkb.{records_of, records_refusal}
use Rattle.wkb_reading.proofs.Answers.{run_apart, run_adds}
use Rattle.wkb_reading.proofs.run_refusal.Goals as goal

pub returns-then-not-adds_up : goal.returns-then-not-adds_up
returns-then-not-adds_up c = run_apart _ _ (sym c.adds_up.ensures ∙ c.if-not-adds_up.true)

pub run_type-wkb_type-requires : goal.run_type-wkb_type-requires
run_type-wkb_type-requires c = eqb-true _ _ (sym c.adds_up.ensures ∙ c.if-not-adds_up.false)

pub records_refusal-requires : goal.records_refusal-requires
records_refusal-requires c = eqb-true _ _ (sym c.adds_up.ensures ∙ c.if-not-adds_up.false)

pub returns : goal.returns
returns c = let a = c.args in c.records_refusal.ensures ∙ ap (λ (t : ℕ). records_refusal t (records_of a.lengths.now a.run.now)) c.run_type-wkb_type.ensures ∙ run_adds _ _ (sym c.adds_up.ensures ∙ c.if-not-adds_up.false)
