-- `finish_refusal` is the book's: the tests that both calls begin with, the origin, the lent pieces and then the rooms.
use Prim.Native.Nat.{ℕ}
use mathlib.Core.Path.{◌≡◌, sym, ap, ◌∙◌}
use mathlib.Core.Bool.{Bool}
use mathlib.Core.List.{List, [], ◌∷◌}
use native.Mathlib.Omega.{arith}
use Rattle.rules.specs.Layout.{Lines}
use Rattle.rules.specs.Types.{width_of}
use Rattle.rules.specs.Pieces.{LentPieces, lent_bad, FinishRooms, finish_rooms, finish_refusal_of}
use Rattle.build_refusals.specs.Admitted.{LinesAdmitted}
use Rattle.build_refusals.proofs.Laws.{Left, rung, halt, top, climbed, stayed}
use Rattle.lent_refusals.specs.Tests.{call_tests}
use Rattle.lent_refusals.proofs.Ladders.{calls_numbered, call_admitted, sized, finish_asked, finish_rest, finish_opened}
use Rattle.rules.specs.Answers.{found}
use Rattle.build_refusals.specs.Tests.{any_short}
use Rattle.build_refusals.proofs.Found.{no_none, handed_on}
use Rattle.lent_laws.specs.Lent.{as_lines, as_pieces}
use Rattle.lent_refusals.proofs.finish_refusal.Goals as goal
use Rattle.lent_refusals.proofs.finish_refusal.Goals.{After-lent_bad, Else-lent_bad, Else-origin_bad, In_ok-call_refusal, Start}

abbrev lines_of : Start → Lines
lines_of s = as_lines s.args.lines.now

abbrev pieces_of : Start → LentPieces
pieces_of s = as_pieces s.args.pieces.now

abbrev rooms_of : Start → FinishRooms
rooms_of s = finish_rooms s.args.table.now s.args.members.now s.args.marks.now s.args.listing.now s.args.merged.now s.args.boxes.now s.args.workspace.now

abbrev begun : Start → List (ℕ × Bool)
begun s = call_tests s.args.wkb_type (lines_of s) s.args.settings.switch s.args.settings.limit

abbrev rest : Start → List (ℕ × Bool)
rest s = finish_rest s.args.wkb_type (lines_of s) (pieces_of s) s.args.settings (rooms_of s)

abbrev refused : Start → ℕ
refused s = finish_refusal_of s.args.wkb_type (lines_of s) (pieces_of s) s.args.settings (rooms_of s)

-- the tests that both calls begin with don't hold, nor then the origin's
left1 : (c : In_ok-call_refusal) → Left (refused (goal.at.In_ok-call_refusal c).Start) (rest (goal.at.In_ok-call_refusal c).Start)
left1 c =
    climbed (begun (goal.at.In_ok-call_refusal c).Start) (rest (goal.at.In_ok-call_refusal c).Start) (finish_opened c.args.wkb_type (lines_of (goal.at.In_ok-call_refusal c).Start) (pieces_of (goal.at.In_ok-call_refusal c).Start) c.args.settings (rooms_of (goal.at.In_ok-call_refusal c).Start))
    (calls_numbered c.args.wkb_type (lines_of (goal.at.In_ok-call_refusal c).Start) c.args.settings.switch c.args.settings.limit) c.call_refusal.ensures (ap found c.in_ok-call_refusal.was)

left2 : (c : Else-origin_bad) → (Left (refused (goal.at.Else-origin_bad c).Start) ((19, lent_bad (width_of c.args.wkb_type) (lines_of (goal.at.Else-origin_bad c).Start) (pieces_of (goal.at.Else-origin_bad c).Start)) ∷ (7, any_short (finish_asked (lines_of (goal.at.Else-origin_bad c).Start) (rooms_of (goal.at.Else-origin_bad c).Start))) ∷ []))
left2 c = rung (left1 (goal.at.Else-origin_bad c).In_ok-call_refusal) (sym c.origin_bad.ensures ∙ c.if-origin_bad.false)

admitted : (c : In_ok-call_refusal) → LinesAdmitted c.args.wkb_type (lines_of (goal.at.In_ok-call_refusal c).Start)
admitted c =
    (call_admitted c.args.wkb_type (lines_of (goal.at.In_ok-call_refusal c).Start) c.args.settings.switch c.args.settings.limit (record { is = c.in_ok-call_refusal.ensures })).0

pub returns-in_err-call_refusal : goal.returns-in_err-call_refusal
returns-in_err-call_refusal c =
    let s = (goal.at.returns-in_err-call_refusal c).Start in
    let r = c.in_err-call_refusal.field-0.0 in
    handed_on c.from_residual.result r c.from_residual.ensures.1
    ∙ stayed (begun s) (rest s) (finish_opened c.args.wkb_type (lines_of s) (pieces_of s) c.args.settings (rooms_of s)) c.in_err-call_refusal.ensures (no_none r)

pub returns-then-origin_bad : goal.returns-then-origin_bad
returns-then-origin_bad c = halt (left1 (goal.at.returns-then-origin_bad c).In_ok-call_refusal) (sym c.origin_bad.ensures ∙ c.if-origin_bad.true)

pub lent_bad-requires : goal.lent_bad-requires
lent_bad-requires c = sized c.args.wkb_type c.width_of-width.result (lines_of (goal.at.lent_bad-requires c).Start) (admitted (goal.at.lent_bad-requires c).In_ok-call_refusal) c.width_of-width.ensures.0 c.width_of-width.ensures.1

-- nor then that of the pieces
judged : (c : After-lent_bad) → lent_bad (width_of c.args.wkb_type) (lines_of (goal.at.After-lent_bad c).Start) (pieces_of (goal.at.After-lent_bad c).Start) ≡ c.lent_bad.result
judged c =
    let s = (goal.at.After-lent_bad c).Start in
    ap (λ (w : ℕ). lent_bad w (lines_of s) (pieces_of s)) (sym c.width_of-width.ensures.0) ∙ sym c.lent_bad.ensures

left3 : (c : Else-lent_bad) → (Left (refused (goal.at.Else-lent_bad c).Start) ((7, any_short (finish_asked (lines_of (goal.at.Else-lent_bad c).Start) (rooms_of (goal.at.Else-lent_bad c).Start))) ∷ []))
left3 c = rung (left2 (goal.at.Else-lent_bad c).Else-origin_bad) (judged (goal.at.Else-lent_bad c).After-lent_bad ∙ c.if-lent_bad.false)

pub returns-then-lent_bad : goal.returns-then-lent_bad
returns-then-lent_bad c = halt (left2 (goal.at.returns-then-lent_bad c).Else-origin_bad) (judged (goal.at.returns-then-lent_bad c).After-lent_bad ∙ c.if-lent_bad.true)

pub overflow_add-n : goal.overflow_add-n
overflow_add-n c = omega (arith, (admitted (goal.at.overflow_add-n c).In_ok-call_refusal).few)

pub overflow_mul-n-3 : goal.overflow_mul-n-3
overflow_mul-n-3 c = omega (arith, (admitted (goal.at.overflow_mul-n-3 c).In_ok-call_refusal).few)

pub returns-then-any_short : goal.returns-then-any_short
returns-then-any_short c = halt (left3 (goal.at.returns-then-any_short c).Else-lent_bad) (sym c.any_short.ensures ∙ c.if-any_short.true)

pub returns : goal.returns
returns c = top (rung (left3 (goal.at.returns c).Else-lent_bad) (sym c.any_short.ensures ∙ c.if-any_short.false))
