-- What `any` answers is the test of the row.
use Rattle.std.proofs.Common.{rules, ◌∙◌, leb}
use Rattle.std.proofs.lemmas.Iterator.{YieldsList-from_slice}
use Rattle.std.proofs.lemmas.Iterator.Search.{any_from_yields_List}
use Rattle.check_laws.proofs.Iterating.{any_is}
use borrow.Author.Tests.{tests}
use Rattle.check_lines.proofs.any_beyond.Goals as goal

pub returns : goal.returns
returns c =
    any_from_yields_List (leb c.args.n) _ _ _ c.any.ensures.ran (YieldsList-from_slice c.args.listed.now cc) (λ x b q k. search (rules, tests)) ∙ any_is (leb c.args.n) c.args.listed.now
