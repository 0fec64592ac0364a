-- The refusal of the run, then that of the rooms, then everything is stored, and the type told.
use mathlib.Core.Path.{◌≡◌, sym, ap, subst, ◌∙◌}
use Rattle.rules.specs.Answers.{found}
use Rattle.build_refusals.proofs.Found.{no_none, refused_on}
use mathlib.Core.Bool.{false}
use native.Mathlib.Omega.{arith}
use Rattle.rules.specs.Wkb.{Read, LentRun, run_as, run_refusal, lent_records}
use Rattle.wkb_reading.proofs.Answers.{sound, long, storable, room_short, type_room, refused_run, refused_room, accepted, read_refused, read_accepted, tell_one}
use Rattle.wkb_reading.proofs.read.Goals as goal
use Rattle.wkb_reading.proofs.read.Goals.{In_ok-run_refusal, Else-room_short, Start}

abbrev lent : Start → LentRun
lent s = run_as s.args.run.now s.args.lengths.now s.args.coordinates.now s.args.counts.now s.args.wkb_type.now

abbrev given : In_ok-run_refusal → LentRun
given c = lent (goal.at.In_ok-run_refusal c).Start

-- the run is not refused
passed : (c : In_ok-run_refusal) → run_refusal (given c).run (given c).lengths ≡ 0
passed c = sym c.run_refusal.ensures ∙ ap found c.in_ok-run_refusal.was

-- and there is room
fits : (c : Else-room_short) → room_short (given (goal.at.Else-room_short c).In_ok-run_refusal) ≡ false
fits c = sym c.room_short.ensures ∙ c.if-room_short.false

pub returns-in_err-run_refusal : goal.returns-in_err-run_refusal
returns-in_err-run_refusal c =
    let i = lent (goal.at.returns-in_err-run_refusal c).Start in
    let r = c.in_err-run_refusal.field-0.0 in
    subst (λ x. Read i x i.coordinates i.counts i.type) (sym (refused_on c.from_residual.result r c.from_residual.ensures.1))
    (read_refused i _ (refused_run i c.in_err-run_refusal.ensures (no_none r)) (no_none r))

pub room_short-requires : goal.room_short-requires
room_short-requires c = long (sound _ _ (passed c))

pub returns-then-room_short : goal.returns-then-room_short
returns-then-room_short c =
    let i = given (goal.at.returns-then-room_short c).In_ok-run_refusal in
    read_refused i _ (refused_room i (passed (goal.at.returns-then-room_short c).In_ok-run_refusal) (sym c.room_short.ensures ∙ c.if-room_short.true)) (λ e. absurd (omega arith))

pub store-requires : goal.store-requires
store-requires c = storable (sound _ _ (passed (goal.at.store-requires c).In_ok-run_refusal)) (given (goal.at.store-requires c).In_ok-run_refusal).type (fits (goal.at.store-requires c).Else-room_short)

pub run_type-requires : goal.run_type-requires
run_type-requires c = (sound _ _ (passed (goal.at.run_type-requires c).In_ok-run_refusal)).adds

pub bounds-wkb_type-0 : goal.bounds-wkb_type-0
bounds-wkb_type-0 c = type_room (given (goal.at.bounds-wkb_type-0 c).In_ok-run_refusal) (fits (goal.at.bounds-wkb_type-0 c).Else-room_short)

pub returns : goal.returns
unfolding lent_records
returns c =
    let i = given (goal.at.returns c).In_ok-run_refusal in
    read_accepted i (accepted i (passed (goal.at.returns c).In_ok-run_refusal) (fits (goal.at.returns c).Else-room_short)) c.store.ensures (tell_one _ _ i.type (type_room i (fits (goal.at.returns c).Else-room_short)) c.run_type.ensures)
