-- The rungs one after another, those of the lines first.
use native.Mathlib.Omega.{arith}
use mathlib.Core.Path.{sym, ap, ◌∙◌}
use borrow.Author.Tests.{lt-ltb, le-ltb}
use Prim.Native.Nat.{◌*◌}
use lib.ListN.{length}
use Rattle.rules.specs.Layout.{lent}
use Rattle.rules.specs.Refusals.{line_tests, line_room}
use Rattle.build_refusals.proofs.Laws.{lines_numbered, climbed, stayed, rung, halt, top}
use Rattle.rules.specs.Answers.{found}
use Rattle.build_refusals.proofs.Found.{no_none, handed_on}
use Rattle.check_calls.proofs.Ladder.{room_tests, first_left, few_lines}
use Rattle.check_calls.proofs.refusal.Goals as goal

pub returns-in_err-line_refusal : goal.returns-in_err-line_refusal
returns-in_err-line_refusal c =
    let a = c.args in
    let r = c.in_err-line_refusal.field-0.0 in
    handed_on c.from_residual.result r c.from_residual.ensures.1
    ∙ stayed (line_tests a.wkb_type (lent a.coordinates.now a.counts.now a.groups.now a.kinds.now)) (room_tests a.m a.room (length a.counts.now)) (first_left a.wkb_type (lent a.coordinates.now a.counts.now a.groups.now a.kinds.now) a.m a.room) c.in_err-line_refusal.ensures (no_none r)

pub returns-then-origin_bad : goal.returns-then-origin_bad
returns-then-origin_bad c =
    let a = c.args in
    halt (climbed (line_tests a.wkb_type (lent a.coordinates.now a.counts.now a.groups.now a.kinds.now)) (room_tests a.m a.room (length a.counts.now)) (first_left a.wkb_type (lent a.coordinates.now a.counts.now a.groups.now a.kinds.now) a.m a.room) (lines_numbered a.wkb_type (lent a.coordinates.now a.counts.now a.groups.now a.kinds.now)) c.line_refusal.ensures (ap found c.in_ok-line_refusal.was)) (sym c.origin_bad.ensures ∙ c.if-origin_bad.true)

pub overflow_mul-counts : goal.overflow_mul-counts
overflow_mul-counts c =
    let a = c.args in
    omega (arith, (few_lines a.wkb_type (lent a.coordinates.now a.counts.now a.groups.now a.kinds.now) (sym (ap found c.in_ok-line_refusal.was) ∙ c.line_refusal.ensures)).few)

pub returns-then-room-counts : goal.returns-then-room-counts
returns-then-room-counts c =
    let a = c.args in
    halt (rung (climbed (line_tests a.wkb_type (lent a.coordinates.now a.counts.now a.groups.now a.kinds.now)) (room_tests a.m a.room (length a.counts.now)) (first_left a.wkb_type (lent a.coordinates.now a.counts.now a.groups.now a.kinds.now) a.m a.room) (lines_numbered a.wkb_type (lent a.coordinates.now a.counts.now a.groups.now a.kinds.now)) c.line_refusal.ensures (ap found c.in_ok-line_refusal.was)) (sym c.origin_bad.ensures ∙ c.if-origin_bad.false))
    (lt-ltb a.room (length a.counts.now * line_room) c.if-room-counts.true)

pub returns : goal.returns
returns c =
    let a = c.args in
    top (rung (rung (climbed (line_tests a.wkb_type (lent a.coordinates.now a.counts.now a.groups.now a.kinds.now)) (room_tests a.m a.room (length a.counts.now)) (first_left a.wkb_type (lent a.coordinates.now a.counts.now a.groups.now a.kinds.now) a.m a.room) (lines_numbered a.wkb_type (lent a.coordinates.now a.counts.now a.groups.now a.kinds.now)) c.line_refusal.ensures (ap found c.in_ok-line_refusal.was)) (sym c.origin_bad.ensures ∙ c.if-origin_bad.false))
    (le-ltb a.room (length a.counts.now * line_room) c.if-room-counts.false))
