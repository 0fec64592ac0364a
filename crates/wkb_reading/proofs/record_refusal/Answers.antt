-- The ladder of the record's tests: after each that doesn't hold the refusal is that of the tests that are left.
use Prim.Native.Nat.{ℕ}
use lib.ListN.{drop}
use borrow.Author.Tests.{lt-ltb, le-ltb, eq-eqb, ne_eqb}
use Rattle.build_refusals.proofs.Laws.{Left, rung, halt, top}
use Rattle.rules.specs.Wkb.{byte_order, type_of, count_of, record_refusal}
use Rattle.wkb_reading.proofs.Laws.{tests, opened, own_width, own_type, own_size}
use Rattle.wkb_reading.proofs.record_refusal.Goals as goal
use Rattle.wkb_reading.proofs.record_refusal.Goals.{Else-bytes-gt1, Else-bytes-lt-HEADER, Else-own-wkb_type, Else-width-eq0, Start}

abbrev After : ℕ → Start → Type 0
After k s = Left (record_refusal s.args.wkb_type s.args.bytes.now) (drop k (tests s.args.wkb_type s.args.bytes.now))

left1 : (c : Else-bytes-lt-HEADER) → After 1 (goal.at.Else-bytes-lt-HEADER c).Start
left1 c = rung (opened _ _) (le-ltb _ _ c.if-bytes-lt-HEADER.false)

left2 : (c : Else-bytes-gt1) → After 2 (goal.at.Else-bytes-gt1 c).Start
unfolding byte_order
left2 c = rung (left1 (goal.at.Else-bytes-gt1 c).Else-bytes-lt-HEADER) (le-ltb _ _ c.if-bytes-gt1.false)

left3 : (c : Else-width-eq0) → After 3 (goal.at.Else-width-eq0 c).Start
unfolding type_of
left3 c = rung (left2 (goal.at.Else-width-eq0 c).Else-bytes-gt1) (own_width _ _ _ c.word-own.ensures c.width_of-width.ensures.0 (ne_eqb _ _ c.if-width-eq0.false))

left4 : (c : Else-own-wkb_type) → After 4 (goal.at.Else-own-wkb_type c).Start
unfolding type_of
left4 c = rung (left3 (goal.at.Else-own-wkb_type c).Else-width-eq0) (own_type _ _ _ c.word-own.ensures (eq-eqb _ _ c.if-own-wkb_type.false))

pub returns-then-bytes-lt-HEADER : goal.returns-then-bytes-lt-HEADER
returns-then-bytes-lt-HEADER c = halt (opened _ _) (lt-ltb _ _ c.if-bytes-lt-HEADER.true)

pub returns-then-bytes-gt1 : goal.returns-then-bytes-gt1
unfolding byte_order
returns-then-bytes-gt1 c = halt (left1 (goal.at.returns-then-bytes-gt1 c).Else-bytes-lt-HEADER) (lt-ltb _ _ c.if-bytes-gt1.true)

pub returns-then-width-eq0 : goal.returns-then-width-eq0
unfolding type_of
returns-then-width-eq0 c = halt (left2 (goal.at.returns-then-width-eq0 c).Else-bytes-gt1) (own_width _ _ _ c.word-own.ensures c.width_of-width.ensures.0 (eq-eqb _ _ c.if-width-eq0.true))

pub returns-then-own-wkb_type : goal.returns-then-own-wkb_type
unfolding type_of
returns-then-own-wkb_type c = halt (left3 (goal.at.returns-then-own-wkb_type c).Else-width-eq0) (own_type _ _ _ c.word-own.ensures (ne_eqb _ _ c.if-own-wkb_type.true))

pub returns-then-bytes-word : goal.returns-then-bytes-word
unfolding type_of count_of
returns-then-bytes-word c = halt (left4 (goal.at.returns-then-bytes-word c).Else-own-wkb_type) (own_size _ _ _ _ _ c.word-own.ensures c.width_of-width.ensures.0 c.word.ensures (ne_eqb _ _ c.if-bytes-word.true))

pub returns : goal.returns
unfolding type_of count_of
returns c = top (rung (left4 (goal.at.returns c).Else-own-wkb_type) (own_size _ _ _ _ _ c.word-own.ensures c.width_of-width.ensures.0 c.word.ensures (eq-eqb _ _ c.if-bytes-word.false)))
