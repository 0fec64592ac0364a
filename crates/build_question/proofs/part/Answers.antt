-- Where there is no such chain the part is empty.
use mathlib.Core.Path.{sym, ◌∙◌}
use Rattle.build_question.proofs.Laws.{part_none}
use Rattle.build_question.proofs.part.Goals as goal

pub returns-then-no_chain : goal.returns-then-no_chain
returns-then-no_chain c = part_none _ _ _ _ _ (sym c.no_chain.ensures ∙ c.if-no_chain.true)
