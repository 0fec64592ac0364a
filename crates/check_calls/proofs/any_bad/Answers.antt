-- What `any` answers of the numbers below k is the test of the records.
use Rattle.std.proofs.Common.{rules, arith, refl, ◌∙◌}
use Rattle.std.proofs.lemmas.Iterator.{YieldsList-from_range}
use Rattle.std.proofs.lemmas.Iterator.Search.{any_from_yields_List}
use borrow.Author.Tests.{tests}
use Rattle.check_laws.proofs.Iterating.{any_upto}
use Rattle.check_calls.specs.Deliveries.{bad_at}
use Rattle.check_calls.proofs.any_bad.Goals as goal

pub returns : goal.returns
returns c =
    let a = c.args in
    let d = a.chains.now in
    let t = bad_at a.width a.n a.coordinates.now d.merged.now d.table.now d.listing.now in
    any_from_yields_List t _ _ _ c.any.ensures.ran (YieldsList-from_range 0 a.k a.k refl (omega arith)) (λ x b q k. search (rules, tests)) ∙ any_upto t a.k
