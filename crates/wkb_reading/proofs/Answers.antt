-- What a reading call answers: refused for the run, refused for a room, or accepted with everything stored.
use Prim.Native.Nat.{ℕ, zero, suc, ◌-◌, ◌*◌, ◌/◌, ◌≤◌}
use mathlib.Core.Path.{◌≡◌, refl, sym, ap, ◌∙◌, subst}
use mathlib.Core.Bool.{Bool, true, false, ◌||◌, true≢false}
use mathlib.Core.List.{List, [], ◌∷◌}
use native.Mathlib.Omega.{arith}
use lib.ListN.{length, set}
use lib.Dec.{eqb, ltb}
use borrow.Author.Tests.{eqb-true, ne_eqb, ltb-false}
use Rattle.rules.specs.Lists.{total}
use Rattle.rules.specs.Refusals.{first_of}
use Rattle.rules.specs.Answers.{Accepted, Refused}
use Rattle.rules.specs.Calls.{unless, answer_of, written}
use Rattle.rules.specs.Wkb.{records_of, run_type, records_refusal, run_refusal, coordinates_of, LentRun, lent_records, read_refusal_of, Read}
use Rattle.wkb_records.proofs.Records.{run_numbers}
use Rattle.wkb_reading.specs.Storing.{Storable, RunStored}
use Rattle.wkb_reading.proofs.Storing.{headed}

-- ---- the refusal of a run

module _ (run lengths : List ℕ) where
  pub run_apart : eqb (total lengths) (length run) ≡ false → 13 ≡ run_refusal run lengths
  unfolding run_refusal
  run_apart e = rw (e, run_refusal)

  pub run_adds : eqb (total lengths) (length run) ≡ true → records_refusal (run_type (records_of lengths run)) (records_of lengths run) ≡ run_refusal run lengths
  unfolding run_refusal
  run_adds e = rw (e, run_refusal)

pub or_false : (a b : Bool) → a || b ≡ false → (a ≡ false) × (b ≡ false)
or_false true b e = absurd (true≢false e)
or_false false b e = (refl, e)

-- a run that is not refused
pub record Sound (run lengths : List ℕ) : Type 0 where
  pub adds : total lengths ≡ length run
  pub passed : records_refusal (run_type (records_of lengths run)) (records_of lengths run) ≡ 0

pub sound : (run lengths : List ℕ) → run_refusal run lengths ≡ 0 → Sound run lengths
sound run lengths z = go (eqb (total lengths) (length run)) refl
  where
    go : (b : Bool) → eqb (total lengths) (length run) ≡ b → Sound run lengths
    go true e = record { adds = eqb-true _ _ e; passed = run_adds run lengths e ∙ z }
    go false e = absurd (let f : 13 ≡ run_refusal run lengths = run_apart run lengths e in omega arith)

module _ {run lengths : List ℕ} (s : Sound run lengths) where
  -- how many numbers there are, by the lengths alone
  pub needed : (length run - length lengths * 9) / 8 ≡ length (coordinates_of (records_of lengths run))
  needed = omega (arith, run_numbers (run_type (records_of lengths run)) lengths run s.adds s.passed)

  pub long : length lengths * 9 ≤ length run
  long = omega (arith, run_numbers (run_type (records_of lengths run)) lengths run s.adds s.passed)

  pub storable : {coordinates counts : List ℕ} (type : List ℕ) → ltb (length coordinates) ((length run - length lengths * 9) / 8) || (ltb (length counts) (length lengths) || ltb (length type) 1) ≡ false
      → Storable run lengths coordinates counts
  storable {coordinates} {counts} type e =
      let p = or_false _ _ e in
      let q = or_false _ _ p.1 in
      record {
        adds = s.adds;
        headed = headed (run_type (records_of lengths run)) (records_of lengths run) s.passed;
        room = subst (λ (n : ℕ). n ≤ length coordinates) needed (ltb-false (length coordinates) _ p.0);
        rows = ltb-false (length counts) (length lengths) q.0;
      }

-- ---- the refusal of a call

-- the rooms, as the call tests them
abbrev pub room_short : LentRun → Bool
room_short i =
    ltb (length i.coordinates) ((length i.run - length i.lengths * 9) / 8) || (ltb (length i.counts) (length i.lengths) || ltb (length i.type) 1)

module _ (i : LentRun) where
  pub refused_run : {k : ℕ} → k ≡ run_refusal i.run i.lengths → (k ≡ 0 → ⊥) → read_refusal_of i ≡ k
  unfolding read_refusal_of first_of
  refused_run e n = rw (ne_eqb (run_refusal i.run i.lengths) 0 (λ z. n (e ∙ z)), first_of) (sym e)

  rooms : run_refusal i.run i.lengths ≡ 0 → read_refusal_of i ≡ first_of ((14, room_short i) ∷ [])
  unfolding read_refusal_of first_of lent_records
  rooms z = rw (z, needed (sound i.run i.lengths z))

  pub refused_room : run_refusal i.run i.lengths ≡ 0 → room_short i ≡ true → read_refusal_of i ≡ 14
  unfolding first_of
  refused_room z e = rooms z ∙ rw (e, first_of)

  pub accepted : run_refusal i.run i.lengths ≡ 0 → room_short i ≡ false → read_refusal_of i ≡ 0
  unfolding first_of
  accepted z e = rooms z ∙ rw (e, first_of)

  pub read_refused : (k : ℕ) → read_refusal_of i ≡ k → (k ≡ 0 → ⊥) → Read i (Refused k) i.coordinates i.counts i.type
  unfolding answer_of unless
  read_refused zero e n = absurd (n refl)
  read_refused (suc k) e n = record { answer = rw e; coordinates = rw e; counts = rw e; type = rw e }

  pub read_accepted : {coordinates' counts' type' : List ℕ} → read_refusal_of i ≡ 0 → RunStored i.run i.lengths coordinates' i.coordinates counts' i.counts
      → type' ≡ written (run_type (lent_records i) ∷ []) i.type → Read i (Accepted (length i.lengths)) coordinates' counts' type'
  unfolding answer_of unless lent_records
  read_accepted e s t = record { answer = rw e; coordinates = rw e s.numbers; counts = rw e s.tally; type = rw e t }

-- ---- the tests of the rooms, one by one

pub short_neither : (a b : Bool) → a ≡ false → b ≡ false → a || b ≡ false
short_neither a b e f = rw (e, f)

-- where no room is short there is one for the type
pub type_room : (i : LentRun) → room_short i ≡ false → 1 ≤ length i.type
type_room i e =
    let p = or_false (ltb (length i.coordinates) ((length i.run - length i.lengths * 9) / 8)) _ e in
    let q = or_false (ltb (length i.counts) (length i.lengths)) (ltb (length i.type) 1) p.1 in
    ltb-false (length i.type) 1 q.1

-- the type is told in the first place of its room
pub tell_one : (t v : ℕ) (l : List ℕ) → 1 ≤ length l → v ≡ t → set l 0 v ≡ written (t ∷ []) l
unfolding written
tell_one t v [] n e = absurd (omega arith)
tell_one t v (x ∷ l) n e = ap (λ (a : ℕ). a ∷ l) e
