-- `chain` answers as the book asks: refused with 12 for no type, with 10 where there is no such chain, accepted with 0 where there is.
use mathlib.Core.Path.{sym, ◌∙◌}
use Rattle.build_question.proofs.Laws.{asked_untyped, asked_none, asked_there}
use Rattle.build_question.proofs.chain.Goals as goal

pub returns-then-width-eq0 : goal.returns-then-width-eq0
returns-then-width-eq0 c = asked_untyped _ _ _ _ _ c.width_of-width.ensures.0 c.if-width-eq0.true

pub returns-then-no_chain : goal.returns-then-no_chain
returns-then-no_chain c = asked_none _ _ _ _ _ c.width_of-width.ensures.0 c.if-width-eq0.false (sym c.no_chain.ensures ∙ c.if-no_chain.true)

pub returns : goal.returns
returns c = asked_there _ _ _ _ _ c.width_of-width.ensures.0 c.if-width-eq0.false (sym c.no_chain.ensures ∙ c.if-no_chain.false)
