-- The ladder of the call's tests: after each that doesn't hold the refusal is that of the tests that are left.
use Prim.Native.Nat.{ℕ, suc}
use mathlib.Core.Path.{◌≡◌, sym, ap, subst, ◌∙◌}
use mathlib.Core.Bool.{true, false}
use native.Mathlib.Omega.{arith}
use lib.ListN.{drop}
use borrow.Author.Tests.{lt-ltb, le-ltb, eq-eqb, ne_eqb, ltb-false}
use Rattle.build_refusals.proofs.Laws.{Left, rung, halt, top}
use Rattle.rules.specs.Types.{width_of}
use Rattle.rules.specs.Wkb.{LentChains, any_missing, write_refusal_of}
use Rattle.wkb_records.specs.Orders.{byte_of}
use Rattle.wkb_records.proofs.Bytes.{told_order}
use Rattle.wkb_writing.specs.Writing.{Written}
use Rattle.wkb_writing.proofs.Answers.{rooms_short, tests, opened, width_test, missing_test, room_run, rows_long, either_first, either_second, neither, wrote_refused, wrote_accepted}
use Rattle.wkb_writing.proofs.write.Goals as goal
use Rattle.wkb_writing.proofs.write.Goals.{then-run_short-via-then-run_short, then-run_short-via-else-run_short+then-lengths-n, Else-any_missing, Else-order-gt1, Else-width-eq0, Start}

abbrev lent : Start → LentChains
lent s = record {
  type = s.args.wkb_type;
  input = s.args.coordinates.now;
  merged = s.args.merged.now;
  table = s.args.table.now;
  number = s.args.k;
  order = s.args.order;
  run = s.args.run.now;
  lengths = s.args.lengths.now;
}

abbrev After : ℕ → Start → Type 0
After k s = Left (write_refusal_of (lent s)) (drop k (tests (lent s)))

left1 : (c : Else-width-eq0) → After 1 (goal.at.Else-width-eq0 c).Start
left1 c = rung (opened (lent (goal.at.Else-width-eq0 c).Start)) (width_test (lent (goal.at.Else-width-eq0 c).Start) _ c.width_of-width.ensures.0 (ne_eqb _ _ c.if-width-eq0.false))

left2 : (c : Else-order-gt1) → After 2 (goal.at.Else-order-gt1 c).Start
left2 c = rung (left1 (goal.at.Else-order-gt1 c).Else-width-eq0) (le-ltb _ _ c.if-order-gt1.false)

left3 : (c : Else-any_missing) → After 3 (goal.at.Else-any_missing c).Start
left3 c = rung (left2 (goal.at.Else-any_missing c).Else-order-gt1) (missing_test (lent (goal.at.Else-any_missing c).Start) _ c.width_of-width.ensures.0 c.any_missing.ensures c.if-any_missing.false)

-- what is known once every chain is there
abbrev given : Else-any_missing → LentChains
given c = lent (goal.at.Else-any_missing c).Start

wide : (c : Else-any_missing) → c.width_of-width.result ≡ width_of (given c).type
wide c = c.width_of-width.ensures.0

there : (c : Else-any_missing) → any_missing (width_of (given c).type) (given c).input (given c).merged (given c).table 0 (given c).number ≡ false
there c = missing_test (given c) _ (wide c) c.any_missing.ensures c.if-any_missing.false

above : (k : ℕ) → suc k ≡ 0 → ⊥
above k e = omega arith

pub returns-then-width-eq0 : goal.returns-then-width-eq0
returns-then-width-eq0 c =
    let i = lent (goal.at.returns-then-width-eq0 c).Start in
    wrote_refused i _ (halt (opened i) (width_test i _ c.width_of-width.ensures.0 (eq-eqb _ _ c.if-width-eq0.true))) (above 11)

pub returns-then-order-gt1 : goal.returns-then-order-gt1
returns-then-order-gt1 c = wrote_refused (lent (goal.at.returns-then-order-gt1 c).Start) _ (halt (left1 (goal.at.returns-then-order-gt1 c).Else-width-eq0) (lt-ltb _ _ c.if-order-gt1.true)) (above 15)

pub returns-then-any_missing : goal.returns-then-any_missing
returns-then-any_missing c =
    let i = lent (goal.at.returns-then-any_missing c).Start in
    wrote_refused i _ (halt (left2 (goal.at.returns-then-any_missing c).Else-order-gt1) (missing_test i _ c.width_of-width.ensures.0 c.any_missing.ensures c.if-any_missing.true)) (above 9)

pub run_short-requires : goal.run_short-requires
run_short-requires c = (c.width_of-width.ensures.1, rows_long _ _ _ _ _ (sym c.any_missing.ensures ∙ c.if-any_missing.false))

pub returns-then-run_short : goal.returns-then-run_short
returns-then-run_short c =
    let i = given (goal.at.returns-then-run_short c).Else-any_missing in
    let short = room_run i (wide (goal.at.returns-then-run_short c).Else-any_missing) (there (goal.at.returns-then-run_short c).Else-any_missing) c.run_short.ensures in
    let room =
    elim c.then-run_short.branch as (λ _. rooms_short i ≡ true) [
      | then-run_short-via-then-run_short w ↦ either_first _ _ (short ∙ w.if-run_short.true)
      | then-run_short-via-else-run_short+then-lengths-n w ↦ either_second _ _ (short ∙ w.if-run_short.false) (lt-ltb _ _ w.if-lengths-n.true)
    ] in
    wrote_refused i _ (halt (left3 (goal.at.returns-then-run_short c).Else-any_missing) room) (above 13)

pub write_chains-bytes-requires : goal.write_chains-bytes-requires
write_chains-bytes-requires c =
    record {
      wide = wide (goal.at.write_chains-bytes-requires c).Else-any_missing;
      narrow = c.width_of-width.ensures.1;
      there = sym c.any_missing.ensures ∙ c.if-any_missing.false;
      room = ltb-false _ _ (sym c.run_short.ensures ∙ c.if-run_short.false);
      rows = c.if-lengths-n.false;
    }

pub returns : goal.returns
returns c =
    let short = room_run (given (goal.at.returns c).Else-any_missing) (wide (goal.at.returns c).Else-any_missing) (there (goal.at.returns c).Else-any_missing) c.run_short.ensures in
    let rooms = neither _ _ (short ∙ c.if-run_short.false) (le-ltb _ _ c.if-lengths-n.false) in
    let i = given (goal.at.returns c).Else-any_missing in
    let put =
    subst (λ o. Written (record i { order = o }) c.write_chains-bytes.result c.write_chains-bytes.new.run c.write_chains-bytes.new.lengths)
    (ap byte_of c.of.ensures ∙ told_order c.args.order (omega arith)) c.write_chains-bytes.ensures in
    wrote_accepted i (top (rung (left3 (goal.at.returns c).Else-any_missing) rooms)) put
