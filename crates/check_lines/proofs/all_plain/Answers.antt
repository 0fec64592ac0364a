-- What `all` answers is the test of the row.
use Rattle.std.proofs.Common.{rules, ◌∙◌, ◌<◌, length}
use Rattle.std.proofs.lemmas.Iterator.{YieldsList-from_slice}
use Rattle.std.proofs.lemmas.Iterator.Adapters.{serves_from_places}
use Rattle.std.proofs.lemmas.Iterator.Search.{all_from_yields_List}
use Rattle.check_laws.proofs.Iterating.{all_is}
use Rattle.check_lines.specs.Lines.{plain_at}
use Rattle.check_lines.proofs.Numbers.{below_at}
use borrow.Author.Tests.{tests}
use Rattle.check_lines.proofs.all_plain.Goals as goal

pub all-requires-clause-callable : goal.all-requires-clause-callable
all-requires-clause-callable c =
    serves_from_places (YieldsList-from_slice c.args.listed.now cc) (λ x q r. search rules) (λ x k h e.
    let p : x.now < length c.args.counts.now = below_at _ _ k _ c.requires.0 h e in
    let q : x.now < length c.args.kinds.now = below_at _ _ k _ c.requires.1 h e in
    search rules)

pub returns : goal.returns
returns c =
    all_from_yields_List (plain_at c.args.counts.now c.args.kinds.now) _ _ _ c.all.ensures.ran (YieldsList-from_slice c.args.listed.now cc) (λ x b q k. search (rules, tests)) ∙ all_is (plain_at c.args.counts.now c.args.kinds.now) c.args.listed.now
