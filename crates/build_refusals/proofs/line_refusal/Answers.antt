-- `line_refusal` is that of the tests of the lines. After each test that doesn't hold, the refusal is that of the tests that are left; where one holds, it is that test's number.
use Prim.Native.Nat.{ℕ}
use mathlib.Core.Path.{refl, sym, ap, ◌∙◌}
use lib.ListN.{drop}
use borrow.Author.Tests.{lt-ltb, le-ltb, eq-eqb, ne_eqb}
use Rattle.rules.specs.Layout.{Lines, lent}
use Rattle.rules.specs.Refusals.{first_of, line_tests}
use Rattle.build_refusals.proofs.Laws.{Left, rung, halt, rungs, halts, top, typed, sums, many, placed, has_two, unlike}
use Rattle.rules.specs.Answers.{found}
use Rattle.build_refusals.proofs.Found.{no_none, handed_on}
use Rattle.build_refusals.proofs.line_refusal.Goals as goal
use Rattle.build_refusals.proofs.line_refusal.Goals.{Else-any_above_one, Else-c, Else-c-width, Else-kinds-n, Else-n-gt-MOST_LINES, In_ok-share_refusal, Else-width-eq0, Start}

abbrev lines_of : Start → Lines
lines_of s = lent s.args.coordinates.now s.args.counts.now s.args.groups.now s.args.kinds.now

-- after k tests that don't hold, the refusal is that of the others
abbrev After : ℕ → Start → Type 0
After k s = Left (first_of (line_tests s.args.wkb_type (lines_of s))) (drop k (line_tests s.args.wkb_type (lines_of s)))

all : (s : Start) → After 0 s
all s = record { is = refl }

left1 : (c : Else-width-eq0) → After 1 (goal.at.Else-width-eq0 c).Start
left1 c = rung (all (goal.at.Else-width-eq0 c).Start) (typed _ _ c.width_of-width.ensures.0 (ne_eqb _ _ c.if-width-eq0.false))

left2 : (c : Else-n-gt-MOST_LINES) → After 2 (goal.at.Else-n-gt-MOST_LINES c).Start
left2 c = rung (left1 (goal.at.Else-n-gt-MOST_LINES c).Else-width-eq0) (le-ltb _ _ c.if-n-gt-MOST_LINES.false)

left3 : (c : Else-kinds-n) → After 3 (goal.at.Else-kinds-n c).Start
left3 c = rung (left2 (goal.at.Else-kinds-n c).Else-n-gt-MOST_LINES) (simp (eq-eqb _ _ c.if-groups-n.false, eq-eqb _ _ c.if-kinds-n.false))

left4 : (c : Else-any_above_one) → After 4 (goal.at.Else-any_above_one c).Start
left4 c = rung (left3 (goal.at.Else-any_above_one c).Else-kinds-n) (sym c.any_above_one.ensures ∙ c.if-any_above_one.false)

left5 : (c : Else-c-width) → After 5 (goal.at.Else-c-width c).Start
left5 c = rung (left4 (goal.at.Else-c-width c).Else-any_above_one) (sums _ _ _ _ _ c.total-c.ensures.0 c.width_of-width.ensures.0 (eq-eqb _ _ c.if-c-width.false))

left6 : (c : Else-c) → After 6 (goal.at.Else-c c).Start
left6 c = rung (left5 (goal.at.Else-c c).Else-c-width) (many _ _ _ c.total-c.ensures.0 (le-ltb _ _ c.if-c.false))

left7 : (c : In_ok-share_refusal) → After 8 (goal.at.In_ok-share_refusal c).Start
left7 c = rungs (left6 (goal.at.In_ok-share_refusal c).Else-c) c.share_refusal.ensures (ap found c.in_ok-share_refusal.was)

pub returns-then-width-eq0 : goal.returns-then-width-eq0
returns-then-width-eq0 c = halt (all (goal.at.returns-then-width-eq0 c).Start) (typed _ _ c.width_of-width.ensures.0 (eq-eqb _ _ c.if-width-eq0.true))

pub returns-then-n-gt-MOST_LINES : goal.returns-then-n-gt-MOST_LINES
returns-then-n-gt-MOST_LINES c = halt (left1 (goal.at.returns-then-n-gt-MOST_LINES c).Else-width-eq0) (lt-ltb _ _ c.if-n-gt-MOST_LINES.true)

pub returns-then-groups-n : goal.returns-then-groups-n
returns-then-groups-n c = halt (left2 (goal.at.returns-then-groups-n c).Else-n-gt-MOST_LINES) (unlike _ _ _ c.then-groups-n.either)

pub returns-then-any_above_one : goal.returns-then-any_above_one
returns-then-any_above_one c = halt (left3 (goal.at.returns-then-any_above_one c).Else-kinds-n) (sym c.any_above_one.ensures ∙ c.if-any_above_one.true)

pub returns-then-c-width : goal.returns-then-c-width
returns-then-c-width c = halt (left4 (goal.at.returns-then-c-width c).Else-any_above_one) (sums _ _ _ _ _ c.total-c.ensures.0 c.width_of-width.ensures.0 (ne_eqb _ _ c.if-c-width.true))

pub returns-then-c : goal.returns-then-c
returns-then-c c = halt (left5 (goal.at.returns-then-c c).Else-c-width) (many _ _ _ c.total-c.ensures.0 (lt-ltb _ _ c.if-c.true))

pub returns-in_err-share_refusal : goal.returns-in_err-share_refusal
returns-in_err-share_refusal c =
    let r = c.in_err-share_refusal.field-0.0 in
    handed_on c.from_residual.result r c.from_residual.ensures.1 ∙ halts (left6 (goal.at.returns-in_err-share_refusal c).Else-c) c.in_err-share_refusal.ensures (no_none r)

pub any_nowhere-requires : goal.any_nowhere-requires
any_nowhere-requires c =
    (has_two _ _ c.width_of-width.ensures.0 c.if-width-eq0.false, record { number = c.total-c.result; long = sym c.if-c-width.false })

pub returns-then-any_nowhere : goal.returns-then-any_nowhere
returns-then-any_nowhere c = halt (left7 (goal.at.returns-then-any_nowhere c).In_ok-share_refusal) (placed _ _ _ c.width_of-width.ensures.0 c.any_nowhere.ensures c.if-any_nowhere.true)

pub returns : goal.returns
returns c = top (rung (left7 (goal.at.returns c).In_ok-share_refusal) (placed _ _ _ c.width_of-width.ensures.0 c.any_nowhere.ensures c.if-any_nowhere.false))
