-- The two calls, one after the other, by what each determines.
use Prim.Native.Nat.{ℕ, zero, suc, ◌+◌, ◌-◌, ◌*◌, ◌/◌, ◌≤◌}
use mathlib.Core.Path.{◌≡◌, refl, sym, ap, ap₂, ◌∙◌, subst}
use mathlib.Core.Bool.{Bool, true, false}
use mathlib.Core.List.{List, [], ◌∷◌, ◌++◌, map}
use native.Mathlib.Omega.{arith}
use lib.ListN.{length, take, drop, length-map}
use lib.Seq.{take_at, drop_at}
use lib.Dec.{eqb, ltb}
use borrow.Author.Tests.{eqb-true, eqb-false, ne_eqb, le-ltb}
use Rattle.rules.specs.Lists.{total, from}
use Rattle.rules.specs.Answers.{Answer}
use Rattle.rules.specs.Answers.{Accepted}
use Rattle.rules.specs.Calls.{unless, answer_of, written}
use Rattle.rules.specs.Types.{width_of}
use Rattle.rules.specs.Wkb.{any_missing, run_type, records_refusal, records_of, coordinates_of, counts_of, run_refusal, LentRun, lent_records, read_refusal_of, Read, LentChains, chain_record, chains_as, run_of, lengths_of, write_refusal_of, Wrote}
use Rattle.build_refusals.proofs.Laws.{rung, top}
use Rattle.wkb_records.proofs.Records.{first_good, counts_length}
use Rattle.wkb_reading.proofs.Answers.{accepted, refused_run, sound, needed, short_neither}
use Rattle.wkb_writing.proofs.Answers.{opened}
use Rattle.wkb_trips.specs.Trips.{Below, Fitting, all_numbers, RoomToRead, Returned, Kept, lines_table, Rewritten}
use Rattle.wkb_trips.proofs.Lines.{lines_named}
use Rattle.wkb_trips.proofs.Runs.{read_back, records_are, sums_are, write_each, write_back}

-- an accepted call is not refused, and its result is the second number
accepted_is : (refusal result r : ℕ) → Accepted r ≡ answer_of refusal result → (refusal ≡ 0) × (r ≡ result)
unfolding answer_of unless
accepted_is zero result r e = (refl, cc)
accepted_is (suc k) result r e = let z : ◌≡◌ {A = ℕ} 0 1 = cc in absurd (omega arith)

-- ---- reading what was written

length_from : (k n : ℕ) → length (from k n) ≡ n
unfolding from
length_from k zero = refl
length_from k (suc n) = ap suc (length_from (suc k) n)

lengths_many : (i : LentChains) → length (lengths_of i) ≡ i.number
unfolding lengths_of
lengths_many i = length-map (from 0 i.number) (λ (k : ℕ). length (chain_record i k)) ∙ length_from 0 i.number

-- what an accepted writing call has written
pub record Out (i : LentChains) (r : ℕ) (run' lengths' : List ℕ) : Type 0 where
  pub passed : write_refusal_of i ≡ 0
  pub run : take r run' ≡ run_of i
  pub lengths : take i.number lengths' ≡ lengths_of i

pub out : (i : LentChains) (r : ℕ) (run' lengths' : List ℕ) → Wrote i (Accepted r) run' lengths' → Out i r run' lengths'
unfolding unless written
out i r run' lengths' w =
    let a = accepted_is (write_refusal_of i) (length (run_of i)) r w.answer in
    let e : run' ≡ run_of i ++ drop (length (run_of i)) i.run = w.run ∙ rw a.0 in
    let f : lengths' ≡ lengths_of i ++ drop (length (lengths_of i)) i.lengths = w.lengths ∙ rw a.0 in
    record {
      passed = a.0;
      run = ap (take r) e ∙ take_at (run_of i) (drop (length (run_of i)) i.run) r (sym a.1);
      lengths = ap (take i.number) f ∙ take_at (lengths_of i) (drop (length (lengths_of i)) i.lengths) i.number (lengths_many i);
    }

-- a run that is not refused is read where there is room for it
enough : (j : LentRun) → run_refusal j.run j.lengths ≡ 0 → length (coordinates_of (lent_records j)) ≤ length j.coordinates
    → length j.lengths ≤ length j.counts → 1 ≤ length j.type → read_refusal_of j ≡ 0
unfolding lent_records
enough j z a b c =
    let s = sound j.run j.lengths z in
    let numbers : ltb (length j.coordinates) ((length j.run - length j.lengths * 9) / 8) ≡ false = le-ltb _ _ (subst (λ (n : ℕ). n ≤ length j.coordinates) (sym (needed s)) a) in
    accepted j z (short_neither _ _ numbers (short_neither _ _ (le-ltb _ _ b) (le-ltb _ _ c)))

-- Reading what an accepted call wrote, with room enough, is accepted and gives the chains' coordinates and counts, bit for bit.
pub written_then_read : (i : LentChains) (j : LentRun) → Fitting i → RoomToRead i j
    → {r : ℕ} {run' lengths' : List ℕ} → Wrote i (Accepted r) run' lengths' → j.run ≡ take r run' → j.lengths ≡ take i.number lengths'
    → {a : Answer} {coordinates' counts' type' : List ℕ} → Read j a coordinates' counts' type' → Returned i j a coordinates' counts' type'
unfolding answer_of unless lent_records
written_then_read i j p room {r} {run'} {lengths'} w x y {a} {coordinates'} {counts'} {type'} d =
    let q = out i r run' lengths' w in
    let back = read_back i p q.passed in
    let run_is : j.run ≡ run_of i = x ∙ q.run in
    let lengths-are : j.lengths ≡ lengths_of i = y ∙ q.lengths in
    let many : length j.lengths ≡ i.number = ap length lengths-are ∙ lengths_many i in
    let same : records_of j.lengths j.run ≡ records_of (lengths_of i) (run_of i) = ap₂ records_of lengths-are run_is in
    let numbers : coordinates_of (records_of j.lengths j.run) ≡ all_numbers i = ap coordinates_of same ∙ back.coordinates in
    let z : run_refusal j.run j.lengths ≡ 0 = ap₂ run_refusal run_is lengths-are ∙ back.refused in
    let ok : read_refusal_of j ≡ 0 = enough j z (subst (λ (l : List ℕ). length l ≤ length j.coordinates) (sym numbers) room.numbers) (subst (λ (n : ℕ). n ≤ length j.counts) (sym many) room.rows) room.type in
    record {
      answer = d.answer ∙ rw ok (ap Accepted many);
      coordinates = d.coordinates ∙ rw ok (ap (λ (l : List ℕ). written l j.coordinates) numbers);
      counts = d.counts ∙ rw ok (ap (λ (l : List ℕ). written l j.counts) (ap counts_of same ∙ back.counts));
      type = λ h. d.type ∙ rw ok (ap (λ (t : ℕ). written (t ∷ []) j.type) (ap run_type same ∙ back.type h));
    }

-- ---- writing what was read

-- what an accepted reading call has read
pub record In (j : LentRun) (n : ℕ) (coordinates' counts' : List ℕ) : Type 0 where
  pub passed : run_refusal j.run j.lengths ≡ 0
  pub many : n ≡ length j.lengths
  pub coordinates : coordinates' ≡ coordinates_of (lent_records j) ++ drop (length (coordinates_of (lent_records j))) j.coordinates
  pub counts : take n counts' ≡ counts_of (lent_records j)

-- a call that is not refused has a run that is not
run_passed : (j : LentRun) → read_refusal_of j ≡ 0 → run_refusal j.run j.lengths ≡ 0
run_passed j z = go (eqb (run_refusal j.run j.lengths) 0) refl
  where
    go : (b : Bool) → eqb (run_refusal j.run j.lengths) 0 ≡ b → run_refusal j.run j.lengths ≡ 0
    go true e = eqb-true _ _ e
    go false e = absurd (eqb-false _ _ e (sym (refused_run j refl (eqb-false _ _ e)) ∙ z))

pub taken_in : (j : LentRun) (n : ℕ) (coordinates' counts' type' : List ℕ) → Read j (Accepted n) coordinates' counts' type' → In j n coordinates' counts'
unfolding unless written lent_records
taken_in j n coordinates' counts' type' d =
    let a = accepted_is (read_refusal_of j) (length j.lengths) n d.answer in
    let f : counts' ≡ counts_of (lent_records j) ++ drop (length (counts_of (lent_records j))) j.counts = d.counts ∙ rw a.0 in
    record {
      passed = run_passed j a.0;
      many = a.1;
      coordinates = d.coordinates ∙ rw a.0;
      counts = ap (take n) f ∙ take_at (counts_of (lent_records j)) (drop (length (counts_of (lent_records j))) j.counts) n (counts_length j.lengths j.run ∙ sym a.1);
    }

two_known : width_of 2 ≡ 0 → ⊥
unfolding width_of
two_known e = absurd (omega arith)

pub type_known : (l : List (List ℕ)) → records_refusal (run_type l) l ≡ 0 → width_of (run_type l) ≡ 0 → ⊥
unfolding run_type
type_known [] e = two_known
type_known (r ∷ l) e = (first_good (run_type (r ∷ l)) r l e).0.known

-- a writing call that passes its other tests is not refused where there is room
writes : (i : LentChains) → (width_of i.type ≡ 0 → ⊥) → i.order ≤ 1 → any_missing (width_of i.type) i.input i.merged i.table 0 i.number ≡ false
    → length (run_of i) ≤ length i.run → i.number ≤ length i.lengths → write_refusal_of i ≡ 0
writes i a b c d e =
    sym (top (rung (rung (rung (rung (opened i) (ne_eqb _ _ a)) (le-ltb _ _ b)) c) (short_neither _ _ (le-ltb _ _ d) (le-ltb _ _ e))))

records_many : (lengths run : List ℕ) → length (records_of lengths run) ≡ length lengths
unfolding records_of
records_many [] run = refl
records_many (n ∷ l) run = ap suc (records_many l (drop n run))

-- Writing the lines that an accepted call read, in either byte order and with room enough, is accepted. It gives back each record that was in that order, and
-- the run where all were. The lines are those of source 0, one chain a record, in a table that may go on.
pub read_then_written : (j : LentRun) (merged rows : List ℕ) (order : ℕ) (run₀ lengths₀ : List ℕ) → Below 256 j.run → order ≤ 1
    → length j.run ≤ length run₀ → length j.lengths ≤ length lengths₀ → {n : ℕ} {coordinates' counts' type' : List ℕ} → Read j (Accepted n) coordinates' counts' type'
    → {a : Answer} {run' lengths' : List ℕ} → Wrote (chains_as (run_type (lent_records j)) coordinates' merged (lines_table 0 0 (take n counts') ++ rows) n order run₀ lengths₀) a run' lengths'
    → Rewritten order j a run' run₀ lengths' lengths₀
unfolding answer_of unless written lent_records
read_then_written j merged rows order run₀ lengths₀ b h room many {n} {coordinates'} {counts'} {type'} d {a} {run'} {lengths'} w =
    let q = taken_in j n coordinates' counts' type' d in
    let l : List (List ℕ) = records_of j.lengths j.run in
    let i : LentChains = chains_as (run_type l) coordinates' merged (lines_table 0 0 (take n counts') ++ rows) n order run₀ lengths₀ in
    let s = sound j.run j.lengths q.passed in
    let known = type_known l s.passed in
    let named = lines_named i l [] [] (drop (length (coordinates_of l)) j.coordinates) rows 0 0 s.passed q.coordinates (ap (λ (c : List ℕ). lines_table 0 0 c ++ rows) q.counts) refl (omega arith) in
    let each = write_each i j.run j.lengths b q.passed refl q.many named.0 in
    let long : length (run_of i) ≡ length j.run = sym (sums_are i) ∙ ap total each.1 ∙ s.adds in
    let there : any_missing (width_of (run_type l)) coordinates' merged (lines_table 0 0 (take n counts') ++ rows) 0 n ≡ false =
    ap (any_missing (width_of (run_type l)) coordinates' merged (lines_table 0 0 (take n counts') ++ rows) 0) (q.many ∙ sym (records_many j.lengths j.run)) ∙ named.1 in
    let ok = writes i known h there (subst (λ (m : ℕ). m ≤ length run₀) (sym long) room) (subst (λ (m : ℕ). m ≤ length lengths₀) (sym q.many) many) in
    let bytes : run' ≡ run_of i ++ drop (length (run_of i)) run₀ = w.run ∙ rw ok in
    let back : records_of j.lengths (take (length j.run) run') ≡ map (chain_record i) (from 0 n) =
    ap₂ records_of (sym each.1) (ap (take (length j.run)) bytes ∙ take_at (run_of i) (drop (length (run_of i)) run₀) (length j.run) long) ∙ records_are i in
    record {
      answer = w.answer ∙ rw ok (ap Accepted long);
      sizes = w.lengths ∙ rw ok (ap (λ (t : List ℕ). t ++ drop (length t) lengths₀) each.1);
      records = subst (λ (t : List (List ℕ)). Kept order l t) (sym back) each.0;
      whole = λ o. bytes ∙ ap (λ (t : List ℕ). t ++ drop (length t) run₀) (write_back i j.run j.lengths q.passed o each.0);
      beyond = ap (drop (length j.run)) bytes ∙ drop_at (run_of i) (drop (length (run_of i)) run₀) (length j.run) long ∙ ap (λ (m : ℕ). drop m run₀) long;
    }
