-- `pair_refusal` is the ladder's. After each test that doesn't hold, the refusal is that of the tests that are left; where one holds, it is that test's number.
use Prim.Native.Nat.{ℕ}
use mathlib.Core.Path.{sym, ◌∙◌}
use mathlib.Core.List.{List}
use mathlib.Core.Bool.{Bool}
use native.Mathlib.Omega.{arith}
use lib.ListN.{length, drop}
use borrow.Author.Tests.{lt-ltb, le-ltb}
use Rattle.build_refusals.proofs.Laws.{Left, rung, halt, top}
use Rattle.pair_refusals.specs.Ladder.{pair_tests, pair_refusal_by}
use Rattle.rules.specs.Refusals.{any_wild}
use Rattle.pair_refusals.proofs.Ladder.{opened, tables_agree, not_asked, asked}
use Rattle.pair_refusals.proofs.pair_refusal.Goals as goal
use Rattle.pair_refusals.proofs.pair_refusal.Goals.{else-alone-via-then-alone+else-any_wild, else-alone-via-else-alone}
use Rattle.pair_refusals.proofs.pair_refusal.Goals.{Else-any_above_one, Else-d-gt-MOST_ENDS, Else-limit_bad, Else-more_than_twice, Else-room_short, Else-tables_differ, Start}

abbrev tests_of : Start → List (ℕ × Bool)
tests_of s =
    let e = s.args.ends.now in
    pair_tests s.args.alone e.present.now e.directions.now e.pieces.now s.args.limit s.args.pairs s.args.workspace

-- after k tests that don't hold, the refusal is that of the others
abbrev After : ℕ → Start → Type 0
After k s =
    let e = s.args.ends.now in
    Left
    (pair_refusal_by s.args.alone e.present.now e.directions.now e.pieces.now s.args.limit s.args.pairs s.args.workspace)
    (drop k (tests_of s))

left0 : (s : Start) → After 0 s
left0 s = let e = s.args.ends.now in opened s.args.alone e.present.now e.directions.now e.pieces.now s.args.limit s.args.pairs s.args.workspace

left1 : (c : Else-d-gt-MOST_ENDS) → After 1 (goal.at.Else-d-gt-MOST_ENDS c).Start
left1 c = rung (left0 (goal.at.Else-d-gt-MOST_ENDS c).Start) (le-ltb _ _ c.if-d-gt-MOST_ENDS.false)

left2 : (c : Else-tables_differ) → After 2 (goal.at.Else-tables_differ c).Start
left2 c = rung (left1 (goal.at.Else-tables_differ c).Else-d-gt-MOST_ENDS) (sym c.tables_differ.ensures ∙ c.if-tables_differ.false)

left3 : (c : Else-any_above_one) → After 3 (goal.at.Else-any_above_one c).Start
left3 c = rung (left2 (goal.at.Else-any_above_one c).Else-tables_differ) (sym c.any_above_one.ensures ∙ c.if-any_above_one.false)

left4 : (c : Else-limit_bad) → After 4 (goal.at.Else-limit_bad c).Start
left4 c = rung (left3 (goal.at.Else-limit_bad c).Else-any_above_one) (sym c.limit_bad.ensures ∙ c.if-limit_bad.false)

left5 : (c : Else-room_short) → After 5 (goal.at.Else-room_short c).Start
left5 c = rung (left4 (goal.at.Else-room_short c).Else-limit_bad) (sym c.room_short.ensures ∙ c.if-room_short.false)

left6 : (c : Else-more_than_twice) → After 6 (goal.at.Else-more_than_twice c).Start
left6 c = rung (left5 (goal.at.Else-more_than_twice c).Else-room_short) (sym c.more_than_twice.ensures ∙ c.if-more_than_twice.false)

pub returns-then-d-gt-MOST_ENDS : goal.returns-then-d-gt-MOST_ENDS
returns-then-d-gt-MOST_ENDS c = halt (left0 (goal.at.returns-then-d-gt-MOST_ENDS c).Start) (lt-ltb _ _ c.if-d-gt-MOST_ENDS.true)

pub returns-then-tables_differ : goal.returns-then-tables_differ
returns-then-tables_differ c = halt (left1 (goal.at.returns-then-tables_differ c).Else-d-gt-MOST_ENDS) (sym c.tables_differ.ensures ∙ c.if-tables_differ.true)

pub returns-then-any_above_one : goal.returns-then-any_above_one
returns-then-any_above_one c = halt (left2 (goal.at.returns-then-any_above_one c).Else-tables_differ) (sym c.any_above_one.ensures ∙ c.if-any_above_one.true)

pub returns-then-limit_bad : goal.returns-then-limit_bad
returns-then-limit_bad c = halt (left3 (goal.at.returns-then-limit_bad c).Else-any_above_one) (sym c.limit_bad.ensures ∙ c.if-limit_bad.true)

pub returns-then-room_short : goal.returns-then-room_short
returns-then-room_short c = halt (left4 (goal.at.returns-then-room_short c).Else-limit_bad) (sym c.room_short.ensures ∙ c.if-room_short.true)

pub returns-then-more_than_twice : goal.returns-then-more_than_twice
returns-then-more_than_twice c = halt (left5 (goal.at.returns-then-more_than_twice c).Else-room_short) (sym c.more_than_twice.ensures ∙ c.if-more_than_twice.true)

pub any_wild-requires : goal.any_wild-requires
any_wild-requires c =
    let e = c.args.ends.now in
    let t = tables_agree (length e.present.now) (length e.directions.now) (length e.pieces.now) (sym c.tables_differ.ensures ∙ c.if-tables_differ.false) in
    (omega (arith, t.0), omega (arith, t.0, t.1))

pub returns-then-any_wild : goal.returns-then-any_wild
returns-then-any_wild c =
    halt (left6 (goal.at.returns-then-any_wild c).Else-more_than_twice) (asked c.args.alone _ c.if-alone.true ∙ sym c.any_wild.ensures ∙ c.if-any_wild.true)

pub returns : goal.returns
returns c =
    let e = c.args.ends.now in
    top (rung (left6 (goal.at.returns c).Else-more_than_twice) (elim c.else-alone.branch [
      | else-alone-via-then-alone+else-any_wild w ↦ asked c.args.alone (any_wild e.present.now e.directions.now) w.if-alone.true ∙ sym w.any_wild.ensures ∙ w.if-any_wild.false
      | else-alone-via-else-alone w ↦ not_asked c.args.alone (any_wild e.present.now e.directions.now) w.if-alone.false
    ]))
