-- The three comparisons decide.
use mathlib.Core.Path.{refl, sym, ap₂, ◌∙◌}
use lib.Ieee.{le}
use Rattle.rules.specs.Plane.{float}
use Rattle.box_window.proofs.Tests.{overlap_last, overlap_behind, overlap_ahead}
use Rattle.box_window.proofs.overlap.Goals as goal

pub returns-then-from-b : goal.returns-then-from-b
returns-then-from-b c = ap₂ le c.of_bits-a.ensures c.of_bits-b.ensures ∙ overlap_last _ _ _ _ (ap₂ le (sym c.of_bits-a.ensures) refl ∙ c.if-a-to.true) (ap₂ le refl (sym c.of_bits-b.ensures) ∙ c.if-from-b.true)

pub returns-else-from-b : goal.returns-else-from-b
returns-else-from-b c = c.if-from-b.false ∙ overlap_behind _ _ _ _ (ap₂ le (sym c.of_bits-a.ensures) refl ∙ c.if-a-to.true) (ap₂ le refl (sym c.of_bits-b.ensures) ∙ c.if-from-b.false)

pub returns-else-a-to : goal.returns-else-a-to
returns-else-a-to c = overlap_ahead _ (float c.args.high) c.args.from _ (ap₂ le (sym c.of_bits-a.ensures) refl ∙ c.if-a-to.false)
