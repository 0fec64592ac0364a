-- What `any` answers of the numbers below k is asked of the chains from 0 on.
use Rattle.std.proofs.Common.{rules, arith, ◌∙◌, refl}
use Rattle.std.proofs.lemmas.Iterator.{YieldsList-from_range}
use Rattle.std.proofs.lemmas.Iterator.Search.{any_from_yields_List}
use borrow.Author.Tests.{tests}
use Rattle.rules.specs.Refusals.{no_chain}
use Rattle.wkb_writing.proofs.Chains.{missing_is}
use Rattle.wkb_writing.proofs.any_missing.Goals as goal

pub returns : goal.returns
returns c =
    let a = c.args in
    any_from_yields_List (no_chain a.width a.input.now a.merged.now a.table.now) _ _ _ c.any.ensures.ran (YieldsList-from_range 0 a.k a.k refl (omega arith)) (λ x b q k. search (rules, tests))
    ∙ missing_is a.width a.input.now a.merged.now a.table.now 0 a.k
