-- `ends::direction_at` meets its contract, by the end's presence mark.
use mathlib.Core.Path.{◌∙◌}
use Rattle.rules.specs.Answers.{Toward}
use Rattle.pair_ends.proofs.Reading.{direction_toward, direction_absent}
use borrow.Author.Rules.{rules}
use Rattle.pair_ends.proofs.direction_at.Goals as goal

pub returns-then-w-e-eq1 : goal.returns-then-w-e-eq1
returns-then-w-e-eq1 c =
    let a = c.args in
    (λ t. Toward (c.of_bits.ensures t) (c.of_bits-then-w-e-eq1.ensures t)) ∙ direction_toward a.w.now a.d a.e c.if-w-e-eq1.true

pub returns : goal.returns
returns c = let a = c.args in direction_absent a.w.now a.d a.e c.if-w-e-eq1.false
