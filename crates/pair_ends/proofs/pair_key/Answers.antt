-- `ends::pair_key` meets its contract, by the cases of the two directions.
use mathlib.Core.Path.{sym, ap, ap₂, ◌∙◌}
use Rattle.rules.specs.Answers.{Direction}
use Rattle.float_order.specs.Key.{key}
use Rattle.pair_laws.specs.Ends.{key_of}
use Rattle.pair_ends.proofs.pair_key.Goals as goal

pub returns-in-Some-Some : goal.returns-in-Some-Some
unfolding key_of
returns-in-Some-Some c = c.key.ensures ∙ ap key c.measure.ensures ∙ sym (ap₂ key_of c.in-Some-Some.is-0 c.in-Some-Some.is-1)

pub returns-in_default : goal.returns-in_default
unfolding key_of
returns-in_default c = sym (ap₂ key_of c.in_default.is-0 c.in_default.is-1)

pub returns-in_default-2 : goal.returns-in_default-2
unfolding key_of
returns-in_default-2 c = sym (ap (λ (a : Direction). key_of a c.args.b) c.in_default.is-0)
