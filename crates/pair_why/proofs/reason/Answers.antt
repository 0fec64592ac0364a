-- Each arm is an arm of the book's reason: what is read is handed to the laws of `Arms`.
use mathlib.Core.Path.{sym, ◌∙◌}
use native.Mathlib.Omega.{arith}
use Rattle.pair_why.proofs.Arms.{Unpicked, few_places, looked, here_selected, here_same, here_absent, there_absent, here_blocked, here_high}
use Rattle.pair_why.proofs.reason.Goals as goal
use Rattle.pair_why.proofs.reason.Goals.{Else-joins}

-- the look over the listed pairs, where it found none of both ends
unpicked : (c : Else-joins) → Unpicked c.requires
unpicked c =
    sym (looked c.requires c.meeting-p.result c.joins.result c.meeting-p.ensures c.joins.ensures)
    ∙ c.if-joins.false

pub returns-then-joins : goal.returns-then-joins
returns-then-joins c =
    here_selected c.requires (sym (looked c.requires c.meeting-p.result c.joins.result c.meeting-p.ensures c.joins.ensures) ∙ c.if-joins.true)

pub returns-then-ends-i : goal.returns-then-ends-i
returns-then-ends-i c =
    here_same c.requires (unpicked (goal.at.returns-then-ends-i c).Else-joins) c.if-ends-i.true

pub returns-in_default : goal.returns-in_default
returns-in_default c =
    here_absent c.requires (unpicked (goal.at.returns-in_default c).Else-joins) c.if-ends-i.false c.direction_of.result c.direction_of.ensures c.in_default.is

pub returns-in_default-direction_of : goal.returns-in_default-direction_of
returns-in_default-direction_of c =
    there_absent c.requires (unpicked (goal.at.returns-in_default-direction_of c).Else-joins) c.if-ends-i.false c.direction_of-2.result c.direction_of-2.ensures c.in_default-direction_of.is

pub overflow_cast-result : goal.overflow_cast-result
overflow_cast-result c =
    omega (arith, few_places c.requires, c.requires.few, c.meeting-p.ensures)

pub returns-then-measure-limit : goal.returns-then-measure-limit
returns-then-measure-limit c =
    here_blocked c.requires (unpicked (goal.at.returns-then-measure-limit c).Else-joins)
    c.if-ends-i.false c.direction_of.result c.direction_of-2.result _ _ _ _ c.measure.result
    c.direction_of.ensures c.in-Some.is c.direction_of-2.ensures c.in-Some-direction_of.is c.measure.ensures
    c.meeting-p.result c.meeting-p.ensures c.if-measure-limit.true

pub returns : goal.returns
returns c =
    here_high c.requires (unpicked (goal.at.returns c).Else-joins)
    c.if-ends-i.false c.direction_of.result c.direction_of-2.result _ _ _ _ c.measure.result
    c.direction_of.ensures c.in-Some.is c.direction_of-2.ensures c.in-Some-direction_of.is c.measure.ensures
    c.if-measure-limit.false
