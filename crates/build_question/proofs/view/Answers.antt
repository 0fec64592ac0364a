-- `view` gives the part of the chain by the width of its type.
use Rattle.build_question.proofs.Laws.{view_is}
use Rattle.build_question.proofs.view.Goals as goal

pub returns : goal.returns
returns c = view_is _ _ _ _ _ c.width_of.ensures.0 c.part.ensures
