-- `first_refusal` is the book's: the tests that both calls begin with, and then its rooms, since it has no pieces that 19 could refuse.
use Rattle.std.proofs.Common.{sym, ap, ◌∙◌, arith}
use Rattle.rules.specs.Answers.{found}
use Rattle.rules.specs.Layout.{Lines}
use Rattle.rules.specs.Pieces.{FirstRooms, first_rooms, first_refusal_of}
use Rattle.build_refusals.specs.Admitted.{LinesAdmitted}
use Rattle.build_refusals.proofs.Found.{no_none, handed_on}
use Rattle.build_refusals.proofs.Laws.{Left, rung, halt, top, climbed, stayed}
use Rattle.lent_laws.specs.Lent.{as_lines}
use Rattle.lent_refusals.specs.Tests.{call_tests}
use Rattle.lent_refusals.proofs.Ladders.{calls_numbered, call_admitted, first_rest, first_opened}
use Rattle.lent_refusals.proofs.first_refusal.Goals as goal
use Rattle.lent_refusals.proofs.first_refusal.Goals.{In_ok-call_refusal, Start}

abbrev lines_of : Start → Lines
lines_of s = as_lines s.args.lines.now

abbrev rooms_of : Start → FirstRooms
rooms_of s = first_rooms s.args.pieces.now s.args.members.now s.args.marks.now s.args.listing.now s.args.merged.now s.args.workspace.now

-- the tests that both calls begin with don't hold
left1 : (c : In_ok-call_refusal)
    → (let s = (goal.at.In_ok-call_refusal c).Start in Left (first_refusal_of c.args.wkb_type (lines_of s) c.args.switch c.args.limit (rooms_of s)) (first_rest (lines_of s) (rooms_of s)))
left1 c =
    let s = (goal.at.In_ok-call_refusal c).Start in
    climbed (call_tests c.args.wkb_type (lines_of s) c.args.switch c.args.limit) (first_rest (lines_of s) (rooms_of s))
    (first_opened c.args.wkb_type (lines_of s) c.args.switch c.args.limit (rooms_of s))
    (calls_numbered c.args.wkb_type (lines_of s) c.args.switch c.args.limit) c.call_refusal.ensures (ap found c.in_ok-call_refusal.was)

admitted : (c : In_ok-call_refusal) → LinesAdmitted c.args.wkb_type (lines_of (goal.at.In_ok-call_refusal c).Start)
admitted c =
    (call_admitted c.args.wkb_type (lines_of (goal.at.In_ok-call_refusal c).Start) c.args.switch c.args.limit (record { is = c.in_ok-call_refusal.ensures })).0

pub returns-in_err-call_refusal : goal.returns-in_err-call_refusal
returns-in_err-call_refusal c =
    let s = (goal.at.returns-in_err-call_refusal c).Start in
    let r = c.in_err-call_refusal.field-0.0 in
    handed_on c.from_residual.result r c.from_residual.ensures.1
    ∙ stayed (call_tests c.args.wkb_type (lines_of s) c.args.switch c.args.limit) (first_rest (lines_of s) (rooms_of s))
    (first_opened c.args.wkb_type (lines_of s) c.args.switch c.args.limit (rooms_of s)) c.in_err-call_refusal.ensures (no_none r)

pub overflow_mul-n-2 : goal.overflow_mul-n-2
overflow_mul-n-2 c = omega (arith, (admitted (goal.at.overflow_mul-n-2 c).In_ok-call_refusal).few)

pub returns-then-any_short : goal.returns-then-any_short
returns-then-any_short c = halt (left1 (goal.at.returns-then-any_short c).In_ok-call_refusal) (sym c.any_short.ensures ∙ c.if-any_short.true)

pub returns : goal.returns
returns c = top (rung (left1 (goal.at.returns c).In_ok-call_refusal) (sym c.any_short.ensures ∙ c.if-any_short.false))
