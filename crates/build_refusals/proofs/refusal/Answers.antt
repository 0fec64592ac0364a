-- `refusal` is the book's. Where the lines are refused, it is their refusal; else that of the tests that are left, one by one.
use Prim.Native.Nat.{ℕ}
use mathlib.Core.Path.{sym, ap, ◌∙◌}
use mathlib.Core.List.{◌++◌}
use lib.ListN.{drop}
use Rattle.rules.specs.Layout.{Lines, lent}
use Rattle.rules.specs.Refusals.{Rooms, rooms, refusal_of, line_tests}
use Rattle.build_refusals.specs.Admitted.{LinesAdmitted}
use Rattle.build_refusals.proofs.Laws.{rest_tests, Left, opened, rung, halt, top, climbed, stayed, lines_numbered, lines_admitted}
use Rattle.build_refusals.proofs.Found.{no_none, handed_on}
use Rattle.rules.specs.Answers.{found}
use native.Mathlib.Omega.{arith}
use Rattle.build_refusals.proofs.refusal.Goals as goal
use Rattle.build_refusals.proofs.refusal.Goals.{Else-origin_bad, Else-switch_bad, In_ok-line_refusal, Start}

abbrev lines_of : Start → Lines
lines_of s = lent s.args.coordinates.now s.args.counts.now s.args.groups.now s.args.kinds.now

abbrev rooms_of : Start → Rooms
rooms_of s =
    rooms s.args.table.now s.args.members.now s.args.marks.now s.args.listing.now s.args.merged.now s.args.boxes.now
    s.args.spare.now s.args.workspace.now

abbrev refused : Start → ℕ
refused s = refusal_of s.args.wkb_type (lines_of s) s.args.settings (rooms_of s)

-- after the tests of the lines and k more that don't hold, the refusal is that of the others
abbrev After : ℕ → Start → Type 0
After k s = Left (refused s) (drop k (rest_tests (lines_of s) s.args.settings (rooms_of s)))

all : (s : Start) → Left (refused s) (line_tests s.args.wkb_type (lines_of s) ++ rest_tests (lines_of s) s.args.settings (rooms_of s))
all s = opened s.args.wkb_type (lines_of s) s.args.settings (rooms_of s)

left1 : (c : In_ok-line_refusal) → After 0 (goal.at.In_ok-line_refusal c).Start
left1 c =
    climbed (line_tests c.args.wkb_type (lines_of (goal.at.In_ok-line_refusal c).Start)) (rest_tests (lines_of (goal.at.In_ok-line_refusal c).Start) c.args.settings (rooms_of (goal.at.In_ok-line_refusal c).Start))
    (all (goal.at.In_ok-line_refusal c).Start)
    (lines_numbered c.args.wkb_type (lines_of (goal.at.In_ok-line_refusal c).Start)) c.line_refusal.ensures (ap found c.in_ok-line_refusal.was)

left2 : (c : Else-switch_bad) → After 1 (goal.at.Else-switch_bad c).Start
left2 c = rung (left1 (goal.at.Else-switch_bad c).In_ok-line_refusal) (sym c.switch_bad.ensures ∙ c.if-switch_bad.false)

left3 : (c : Else-origin_bad) → After 2 (goal.at.Else-origin_bad c).Start
left3 c = rung (left2 (goal.at.Else-origin_bad c).Else-switch_bad) (sym c.origin_bad.ensures ∙ c.if-origin_bad.false)

admitted_lines : (c : In_ok-line_refusal) → LinesAdmitted c.args.wkb_type (lines_of (goal.at.In_ok-line_refusal c).Start)
admitted_lines c =
    lines_admitted c.args.wkb_type (lines_of (goal.at.In_ok-line_refusal c).Start) (record { is = c.in_ok-line_refusal.ensures })

pub returns-in_err-line_refusal : goal.returns-in_err-line_refusal
returns-in_err-line_refusal c =
    let s = (goal.at.returns-in_err-line_refusal c).Start in
    let r = c.in_err-line_refusal.field-0.0 in
    handed_on c.from_residual.result r c.from_residual.ensures.1
    ∙ stayed (line_tests c.args.wkb_type (lines_of s)) (rest_tests (lines_of s) c.args.settings (rooms_of s)) (all s) c.in_err-line_refusal.ensures (no_none r)

pub returns-then-switch_bad : goal.returns-then-switch_bad
returns-then-switch_bad c = halt (left1 (goal.at.returns-then-switch_bad c).In_ok-line_refusal) (sym c.switch_bad.ensures ∙ c.if-switch_bad.true)

pub returns-then-origin_bad : goal.returns-then-origin_bad
returns-then-origin_bad c = halt (left2 (goal.at.returns-then-origin_bad c).Else-switch_bad) (sym c.origin_bad.ensures ∙ c.if-origin_bad.true)

pub overflow_add-n : goal.overflow_add-n
overflow_add-n c = omega (arith, (admitted_lines (goal.at.overflow_add-n c).In_ok-line_refusal).few)

pub overflow_mul-n-3 : goal.overflow_mul-n-3
overflow_mul-n-3 c = omega (arith, (admitted_lines (goal.at.overflow_mul-n-3 c).In_ok-line_refusal).few)

pub returns-then-any_short : goal.returns-then-any_short
returns-then-any_short c = halt (left3 (goal.at.returns-then-any_short c).Else-origin_bad) (sym c.any_short.ensures ∙ c.if-any_short.true)

pub returns : goal.returns
returns c = top (rung (left3 (goal.at.returns c).Else-origin_bad) (sym c.any_short.ensures ∙ c.if-any_short.false))
