-- `any` finds a node that can join ends where there is one among the first m.
use Rattle.std.proofs.Common.{rules, refl, ap, ◌∙◌}
use mathlib.Core.Bool.{not}
use Rattle.std.proofs.lemmas.Iterator.{YieldsList-from_range}
use Rattle.std.proofs.lemmas.Iterator.Search.{any_from_yields_List}
use Rattle.chain_apart.specs.Apart.{meets_at}
use Rattle.chain_apart.proofs.Turns.{apart_any}
use Rattle.chain_apart.proofs.apart.Goals as goal

pub returns : goal.returns
returns c =
    let a = c.args in
    ap not (any_from_yields_List (λ e. meets_at a.on a.v.now a.m e) _ _ c.any.result c.any.ensures.ran (YieldsList-from_range 0 a.m a.m refl (search rules)) (λ x b q k. search rules)) ∙ apart_any a.on a.v.now a.m a.m
