-- The tests one after another.
use mathlib.Core.Path.{sym, ◌∙◌}
use Rattle.check_fits.proofs.Listed.{listed_lines}
use Rattle.check_fits.proofs.Joining.{not_plain, mixed, chosen_one}
use Rattle.check_fits.proofs.joins.Goals as goal

pub a_choice-requires : goal.a_choice-requires
a_choice-requires c =
    let a = c.args in
    let l = a.lines.now in
    listed_lines l.width l.coordinates.now l.firsts.now l.counts.now l.groups.now l.kinds.now l.tabled a.listed.now a.chain.now c.requires.lent (sym c.all_plain.ensures ∙ c.if-all_plain.true) c.requires.some_line

pub returns-then-one_group : goal.returns-then-one_group
returns-then-one_group c =
    let a = c.args in
    let l = a.lines.now in
    chosen_one l.width l.coordinates.now l.firsts.now l.counts.now l.groups.now l.kinds.now l.tabled a.m a.listed.now a.chain.now c.requires.lent c.requires.some_line c.all_plain.result c.one_group.result c.a_choice.result
    c.all_plain.ensures c.if-all_plain.true c.one_group.ensures c.if-one_group.true c.a_choice.ensures

pub returns-else-one_group : goal.returns-else-one_group
returns-else-one_group c =
    let a = c.args in
    let l = a.lines.now in
    c.if-one_group.false
    ∙ mixed l.width l.coordinates.now l.firsts.now l.counts.now l.groups.now l.kinds.now l.tabled a.m a.listed.now a.chain.now c.requires.lent c.requires.some_line c.all_plain.result c.one_group.result
    c.all_plain.ensures c.if-all_plain.true c.one_group.ensures c.if-one_group.false

pub returns-else-all_plain : goal.returns-else-all_plain
returns-else-all_plain c =
    let a = c.args in
    let l = a.lines.now in
    c.if-all_plain.false
    ∙ not_plain l.width l.coordinates.now l.firsts.now l.counts.now l.groups.now l.kinds.now l.tabled a.m a.listed.now a.chain.now c.requires.lent c.requires.some_line c.all_plain.result c.all_plain.ensures c.if-all_plain.false
