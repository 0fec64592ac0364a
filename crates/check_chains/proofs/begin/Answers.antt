-- What is reached at the first place, in both directions.
use native.Mathlib.Omega.{arith}
use mathlib.Core.Path.{ap, ap₂, ◌∙◌}
use lib.ListN.{set}
use lib.Seq.{get_or-set_same}
use Rattle.std.specs.Prelude.{is_none}
use Rattle.check_marks.specs.Marks.{set_of}
use Rattle.check_chains.proofs.Beginning.{begin_drawn, begin_turned, begin_none, none_is}
use Rattle.check_chains.proofs.begin.Goals as goal

pub returns-in-None-default : goal.returns-in-None-default
returns-in-None-default c =
    let a = c.args in
    let s = c.set_of in
    begin_drawn a.width a.chain.now a.line.now c.requires c.reach-drawn.result c.reach-turned.result c.reach-drawn.ensures c.reach-turned.ensures
    (set a.marks.now 0 s.result) (get_or-set_same a.marks.now 0 s.result 0 (omega arith) ∙ s.ensures ∙ ap₂ set_of (none_is c.reach-drawn.result.next _ c.is_none.ensures) (none_is c.reach-turned.result.next _ c.is_none-2.ensures)) (ap is_none c.in-None-default.is-0)

pub returns-in_default-None : goal.returns-in_default-None
returns-in_default-None c =
    let a = c.args in
    let s = c.set_of in
    begin_turned a.width a.chain.now a.line.now c.requires c.reach-drawn.result c.reach-turned.result c.reach-drawn.ensures c.reach-turned.ensures
    (set a.marks.now 0 s.result) (get_or-set_same a.marks.now 0 s.result 0 (omega arith) ∙ s.ensures ∙ ap₂ set_of (none_is c.reach-drawn.result.next _ c.is_none.ensures) (none_is c.reach-turned.result.next _ c.is_none-2.ensures)) (ap is_none c.in_default-None.is-1)

pub returns-in_default : goal.returns-in_default
returns-in_default c =
    let a = c.args in
    let s = c.set_of in
    begin_none a.width a.chain.now a.line.now c.requires c.reach-drawn.result c.reach-turned.result c.reach-drawn.ensures c.reach-turned.ensures
    (set a.marks.now 0 s.result) (get_or-set_same a.marks.now 0 s.result 0 (omega arith) ∙ s.ensures ∙ ap₂ set_of (none_is c.reach-drawn.result.next _ c.is_none.ensures) (none_is c.reach-turned.result.next _ c.is_none-2.ensures))
    (ap is_none c.in_default.is-0) (ap is_none c.in_default.is-1)
