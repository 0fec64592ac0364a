-- What `all` answers of the lines behind the first is the test of that row.
use Rattle.std.proofs.Common.{rules, ◌∙◌, ◌<◌, length, get_or, drop}
use Rattle.std.proofs.lemmas.Iterator.{YieldsList-from_slice}
use Rattle.std.proofs.lemmas.Iterator.Adapters.{serves_from_places}
use Rattle.std.proofs.lemmas.Iterator.Search.{all_from_yields_List}
use Rattle.check_laws.proofs.Iterating.{all_is}
use Rattle.check_lines.specs.Lines.{group_is}
use Rattle.check_lines.proofs.Numbers.{below_at, below_drop, all_behind}
use borrow.Author.Tests.{tests}
use Rattle.check_lines.proofs.one_group.Goals as goal

pub all-requires-clause-callable : goal.all-requires-clause-callable
all-requires-clause-callable c =
    serves_from_places (YieldsList-from_slice (drop 1 c.args.listed.now) (c.iter.ensures.rest ∙ all_behind c.args.listed.now)) (λ x q r. search rules) (λ x k h e.
    let p : x.now < length c.args.groups.now = below_at _ _ k _ (below_drop _ _ c.requires.1) h e in
    search rules)

pub returns : goal.returns
returns c =
    let t = group_is c.args.groups.now (get_or c.args.groups.now (get_or c.args.listed.now 0 0) 0) in
    all_from_yields_List t _ _ _ c.all.ensures.ran (YieldsList-from_slice (drop 1 c.args.listed.now) (c.iter.ensures.rest ∙ all_behind c.args.listed.now)) (λ x b q k. search (rules, tests)) ∙ all_is t (drop 1 c.args.listed.now)
