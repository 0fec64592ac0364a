-- `call_refusal`: where the lines are refused it is their refusal, else that of the switch and the limit.
use mathlib.Core.Path.{sym, ap, ◌∙◌}
use mathlib.Core.List.{[], ◌∷◌}
use Rattle.rules.specs.Layout.{Lines}
use Rattle.rules.specs.Refusals.{first_of, line_tests}
use Rattle.build_refusals.specs.Tests.{switch_bad}
use Rattle.build_refusals.proofs.Laws.{Left, rung, halt, top, climbed, stayed, lines_numbered}
use Rattle.lent_refusals.specs.Tests.{call_tests}
use Rattle.lent_refusals.proofs.Ladders.{line_stays}
use Rattle.rules.specs.Answers.{found}
use Rattle.build_refusals.proofs.Found.{no_none, handed_on}
use Rattle.lent_laws.specs.Lent.{as_lines}
use Rattle.lent_refusals.proofs.call_refusal.Goals as goal
use Rattle.lent_refusals.proofs.call_refusal.Goals.{In_ok-line_refusal, Start}

abbrev lines_of : Start → Lines
lines_of s = as_lines s.args.lines.now

-- the lines' tests don't hold
left1 : (c : In_ok-line_refusal) → (Left (first_of (call_tests c.args.wkb_type (lines_of (goal.at.In_ok-line_refusal c).Start) c.args.switch c.args.limit)) ((6, switch_bad c.args.switch c.args.limit) ∷ []))
left1 c =
    climbed (line_tests c.args.wkb_type (lines_of (goal.at.In_ok-line_refusal c).Start)) ((6, switch_bad c.args.switch c.args.limit) ∷ [])
    (line_stays c.args.wkb_type (lines_of (goal.at.In_ok-line_refusal c).Start) c.args.switch c.args.limit) (lines_numbered c.args.wkb_type (lines_of (goal.at.In_ok-line_refusal c).Start))
    c.line_refusal.ensures (ap found c.in_ok-line_refusal.was)

pub returns-in_err-line_refusal : goal.returns-in_err-line_refusal
returns-in_err-line_refusal c =
    let s = (goal.at.returns-in_err-line_refusal c).Start in
    let r = c.in_err-line_refusal.field-0.0 in
    handed_on c.from_residual.result r c.from_residual.ensures.1
    ∙ stayed (line_tests c.args.wkb_type (lines_of s)) ((6, switch_bad c.args.switch c.args.limit) ∷ []) (line_stays c.args.wkb_type (lines_of s) c.args.switch c.args.limit)
    c.in_err-line_refusal.ensures (no_none r)

pub returns-then-switch_bad : goal.returns-then-switch_bad
returns-then-switch_bad c = halt (left1 (goal.at.returns-then-switch_bad c).In_ok-line_refusal) (sym c.switch_bad.ensures ∙ c.if-switch_bad.true)

pub returns : goal.returns
returns c = top (rung (left1 (goal.at.returns c).In_ok-line_refusal) (sym c.switch_bad.ensures ∙ c.if-switch_bad.false))
