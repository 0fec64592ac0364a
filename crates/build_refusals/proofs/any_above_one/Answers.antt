-- `any_above_one` is the book's test, element by element.
use Rattle.std.proofs.Common.{ltb, rules, tests, sym, ◌∙◌}
use Rattle.std.proofs.lemmas.Iterator.{YieldsList-from_slice}
use Rattle.std.proofs.lemmas.Iterator.Search.{any_from_yields_List}
use Rattle.build_refusals.proofs.Laws.{above_any}
use Rattle.build_refusals.proofs.any_above_one.Goals as goal

pub returns : goal.returns
returns c =
    any_from_yields_List (ltb 1) _ _ _ c.any.ensures.ran (YieldsList-from_slice c.args.kinds.now cc) (λ x b q k. search (rules, tests)) ∙ sym (above_any 1 c.args.kinds.now)
