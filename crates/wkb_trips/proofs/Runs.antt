-- Runs of records. Reading what was written gives the chains' numbers and counts, and writing what was read gives back the run.
use Prim.Native.Nat.{ℕ, zero, suc, ◌+◌, ◌-◌, ◌*◌, ◌≤◌, ◌<◌}
use mathlib.Core.Path.{◌≡◌, refl, sym, ap, ap₂, ◌∙◌, subst}
use mathlib.Core.Bool.{Bool, true, false}
use mathlib.Core.List.{List, [], ◌∷◌, ◌++◌, map, flat_map}
use native.Mathlib.Omega.{arith}
use lib.ListN.{length, take, drop, length-append, length-drop, take-append-drop}
use lib.Seq.{take_at, drop_at, length-take-le}
use borrow.Author.Tests.{le-ltb, eq-eqb, eqb-false, ltb-false}
use Rattle.rules.specs.Lists.{total, from}
use Rattle.rules.specs.Refusals.{no_chain, first_of, entry, source_of, chain_refusal_of, record_size}
use Rattle.rules.specs.Calls.{unless, viewed}
use Rattle.rules.specs.Types.{width_of}
use Rattle.rules.specs.Wkb.{byte_order, count_of, doubles_of, records_of, run_type, records_refusal, run_refusal, coordinates_of, counts_of, record_by, any_missing, chain_record, LentChains, run_of, lengths_of, write_refusal_of}
use Rattle.wkb_records.proofs.Records.{Good, first_good, refusal_pass}
use Rattle.wkb_reading.proofs.Answers.{run_adds, sound}
use Rattle.wkb_writing.proofs.Laws.{record_length}
use Rattle.wkb_writing.proofs.Chains.{view_long}
use Rattle.wkb_writing.proofs.Answers.{first_there}
use Rattle.wkb_trips.specs.Trips.{Below, Fitting, Kept, Ordered, Named, numbers_at, all_numbers, all_counts}
use Rattle.wkb_trips.proofs.Lines.{doubles_long}
use Rattle.wkb_trips.proofs.Numbers.{below_take, below_drop}
use Rattle.wkb_trips.proofs.Records.{passes, count_read, numbers_back, record_read, record_back}

-- ---- lists of records, cut by their lengths

module _ (f : ℕ → List ℕ) where
  pub cut_back : (ks : List ℕ) → records_of (map (λ k. length (f k)) ks) (flat_map f ks) ≡ map f ks
  unfolding records_of flat_map
  cut_back [] = refl
  cut_back (k ∷ l) =
      ap₂ (λ (x : List ℕ) (y : List (List ℕ)). x ∷ y) (take_at (f k) (flat_map f l) (length (f k)) refl)
      (ap (records_of (map (λ (j : ℕ). length (f j)) l)) (drop_at (f k) (flat_map f l) (length (f k)) refl) ∙ cut_back l)

  pub sum_back : (ks : List ℕ) → total (map (λ k. length (f k)) ks) ≡ length (flat_map f ks)
  unfolding total flat_map
  sum_back [] = refl
  sum_back (k ∷ l) = omega (arith, sum_back l, length-append (f k) (flat_map f l))

-- ---- what was written is read

source_fits : (source b : ℕ) (input merged : List ℕ) → Below b input → Below b merged → Below b (source_of source input merged)
unfolding source_of
source_fits zero b input merged h k = h
source_fits (suc s) b input merged h k = k

-- the empty view fits too
fit_unless : (b n : ℕ) (l : List ℕ) → Below b l → Below b (unless n [] l)
unfolding unless Below
fit_unless b zero l h = h
fit_unless b (suc n) l h = tt

numbers_fit : (i : LentChains) → Fitting i → (k : ℕ) → Below 18446744073709551616 (numbers_at i k)
unfolding viewed
numbers_fit i p k =
    fit_unless 18446744073709551616 (chain_refusal_of i.type i.input i.merged i.table k) _
    (below_take 18446744073709551616 (entry i.table k 4 * width_of i.type) _
    (below_drop 18446744073709551616 (entry i.table k 3 * width_of i.type) _
    (source_fits (entry i.table k 2) 18446744073709551616 i.input i.merged p.input_fits p.merged_fits)))

module _ (i : LentChains) (p : Fitting i) (known : width_of i.type ≡ 0 → ⊥) (order : i.order ≤ 1) where
  chain_good : (k : ℕ) → no_chain (width_of i.type) i.input i.merged i.table k ≡ false → Good i.type (chain_record i k)
  unfolding chain_record
  chain_good k there =
      record_read i.order i.type (entry i.table k 4) (numbers_at i k) order p.type_fits known (p.table_fits (k * record_size + 4))
      (view_long i.type i.input i.merged i.table k there)

  pub chains_pass : (j n : ℕ) → any_missing (width_of i.type) i.input i.merged i.table j n ≡ false → records_refusal i.type (map (chain_record i) (from j n)) ≡ 0
  unfolding from records_refusal
  chains_pass j zero m = refl
  chains_pass j (suc n) m =
      let q = first_there (width_of i.type) i.input i.merged i.table j n m in
      refusal_pass i.type (chain_record i j) (map (chain_record i) (from (suc j) n)) (passes i.type (chain_record i j) (chain_good j q.0)) ∙ chains_pass (suc j) n q.1

  pub chains_type : (j n : ℕ) → any_missing (width_of i.type) i.input i.merged i.table j (suc n) ≡ false → run_type (map (chain_record i) (from j (suc n))) ≡ i.type
  unfolding from run_type
  chains_type j n m =
      let g = chain_good j (first_there (width_of i.type) i.input i.merged i.table j n m).0 in
      rw (le-ltb (length (chain_record i j)) 9 g.headed, run_type) g.typed

pub chains_numbers : (i : LentChains) → Fitting i → (ks : List ℕ) → coordinates_of (map (chain_record i) ks) ≡ flat_map (numbers_at i) ks
unfolding coordinates_of flat_map chain_record
chains_numbers i p [] = refl
chains_numbers i p (k ∷ l) = ap₂ (λ (x y : List ℕ). x ++ y) (numbers_back i.order i.type (entry i.table k 4) (numbers_at i k) (numbers_fit i p k)) (chains_numbers i p l)

pub chains_counts : (i : LentChains) → Fitting i → (ks : List ℕ) → counts_of (map (chain_record i) ks) ≡ map (λ k. entry i.table k 4) ks
unfolding counts_of chain_record
chains_counts i p [] = refl
chains_counts i p (k ∷ l) = ap₂ (λ (x : ℕ) (y : List ℕ). x ∷ y) (count_read i.order i.type (entry i.table k 4) (numbers_at i k) (p.table_fits (k * record_size + 4))) (chains_counts i p l)

-- the tests that a call passes which isn't refused
pub record Passed (i : LentChains) : Type 0 where
  pub known : width_of i.type ≡ 0 → ⊥
  pub ordered : i.order ≤ 1
  pub there : any_missing (width_of i.type) i.input i.merged i.table 0 i.number ≡ false

off : (k : ℕ) (b : Bool) (l : List (ℕ × Bool)) → first_of ((suc k, b) ∷ l) ≡ 0 → (b ≡ false) × (first_of l ≡ 0)
unfolding first_of
off k true l e = absurd (omega arith)
off k false l e = (refl, e)

pub passed : (i : LentChains) → write_refusal_of i ≡ 0 → Passed i
unfolding write_refusal_of
passed i e =
    let t₁ = off _ _ _ e in
    let t₂ = off _ _ _ t₁.1 in
    let t₃ = off _ _ _ t₂.1 in
    record { known = eqb-false _ _ t₁.0; ordered = ltb-false _ _ t₂.0; there = t₃.0 }

-- Reading what an accepted call wrote is not refused, but for room; it gives the type (where there is a chain), the chains' numbers one after another, and their counts.
pub record ReadBack (i : LentChains) : Type 0 where
  pub refused : run_refusal (run_of i) (lengths_of i) ≡ 0
  pub type : 0 < i.number → run_type (records_of (lengths_of i) (run_of i)) ≡ i.type
  pub coordinates : coordinates_of (records_of (lengths_of i) (run_of i)) ≡ all_numbers i
  pub counts : counts_of (records_of (lengths_of i) (run_of i)) ≡ all_counts i

pub records_are : (i : LentChains) → records_of (lengths_of i) (run_of i) ≡ map (chain_record i) (from 0 i.number)
unfolding lengths_of run_of
records_are i = cut_back (chain_record i) (from 0 i.number)

pub sums_are : (i : LentChains) → total (lengths_of i) ≡ length (run_of i)
unfolding lengths_of run_of
sums_are i = sum_back (chain_record i) (from 0 i.number)

type_is : (i : LentChains) → Fitting i → Passed i → (n : ℕ) → n ≡ i.number → 0 < n
    → run_type (map (chain_record i) (from 0 n)) ≡ i.type
type_is i p q zero f h = absurd (omega arith)
type_is i p q (suc n) f h = chains_type i p q.known q.ordered 0 n (ap (any_missing (width_of i.type) i.input i.merged i.table 0) f ∙ q.there)

refusal_is : (i : LentChains) → Fitting i → Passed i → (n : ℕ) → n ≡ i.number
    → records_refusal (run_type (map (chain_record i) (from 0 n))) (map (chain_record i) (from 0 n)) ≡ 0
unfolding from records_refusal
refusal_is i p q zero f = refl
refusal_is i p q (suc n) f =
    ap (λ (t : ℕ). records_refusal t (map (chain_record i) (from 0 (suc n)))) (type_is i p q (suc n) f (omega arith))
    ∙ chains_pass i p q.known q.ordered 0 (suc n) (ap (any_missing (width_of i.type) i.input i.merged i.table 0) f ∙ q.there)

pub read_back : (i : LentChains) → Fitting i → write_refusal_of i ≡ 0 → ReadBack i
read_back i p z =
    let q = passed i z in
    record {
      refused =
          sym (run_adds (run_of i) (lengths_of i) (eq-eqb (total (lengths_of i)) (length (run_of i)) (sums_are i)))
          ∙ ap (λ (l : List (List ℕ)). records_refusal (run_type l) l) (records_are i) ∙ refusal_is i p q i.number refl;
      type = λ h. ap run_type (records_are i) ∙ type_is i p q i.number refl h;
      coordinates = ap coordinates_of (records_are i) ∙ chains_numbers i p (from 0 i.number);
      counts = ap counts_of (records_are i) ∙ chains_counts i p (from 0 i.number);
    }

-- ---- what was read is written back

one_back : (i : LentChains) (t : ℕ) (r : List ℕ) (j : ℕ) → i.type ≡ t → Below 256 r → Good t r → byte_order r ≡ i.order
    → entry i.table j 4 ≡ count_of r → numbers_at i j ≡ doubles_of r → chain_record i j ≡ r
unfolding chain_record
one_back i t r j e b g o c n =
    ap (λ (x : ℕ). record_by i.order x (entry i.table j 4) (numbers_at i j)) e ∙ ap₂ (λ (x : ℕ) (y : List ℕ). record_by i.order t x y) c n
    ∙ record_back i.order t r b g o

-- a record that is written is as long as the one that was read, in either order
one_long : (i : LentChains) (t : ℕ) (r : List ℕ) (j : ℕ) → Good t r → numbers_at i j ≡ doubles_of r → length (chain_record i j) ≡ length r
unfolding chain_record
one_long i t r j g n =
    record_length i.order i.type (entry i.table j 4) (numbers_at i j)
    ∙ ap (λ (l : List ℕ). 9 + length l * 8) n ∙ ap (λ (m : ℕ). 9 + m * 8) (doubles_long t r g) ∙ sym g.long

back_each : (i : LentChains) (t : ℕ) (lengths run : List ℕ) (j : ℕ) → i.type ≡ t → total lengths ≡ length run → Below 256 run
    → records_refusal t (records_of lengths run) ≡ 0 → Named i j (records_of lengths run)
    → Kept i.order (records_of lengths run) (map (chain_record i) (from j (length lengths))) × (map (λ k. length (chain_record i k)) (from j (length lengths)) ≡ lengths)
unfolding records_of Kept Named total from
back_each i t [] run j e s b r n = (tt, refl)
back_each i t (m ∷ lengths) run j e s b r n =
    let g = first_good t (take m run) (records_of lengths (drop m run)) r in
    let k : length (take m run) ≡ m = length-take-le m run (omega arith) in
    let d : length (drop m run) ≡ length run - m = length-drop m run in
    let more = back_each i t lengths (drop m run) (suc j) e (omega arith) (below_drop 256 m run b) g.1 n.2 in (
      (λ o. one_back i t (take m run) j e (below_take 256 m run b) g.0 o n.0 n.1, more.0),
      ap₂ (λ (x : ℕ) (y : List ℕ). x ∷ y) (one_long i t (take m run) j g.0 n.1 ∙ k) more.1,
    )

-- Writing what was read gives back each record that was in the order that is written, and the lengths.
pub write_each : (i : LentChains) (run lengths : List ℕ) → Below 256 run → run_refusal run lengths ≡ 0
    → i.type ≡ run_type (records_of lengths run) → i.number ≡ length lengths → Named i 0 (records_of lengths run)
    → Kept i.order (records_of lengths run) (map (chain_record i) (from 0 i.number)) × (lengths_of i ≡ lengths)
unfolding lengths_of
write_each i run lengths b z t k n =
    let s = sound run lengths z in
    let q = back_each i (run_type (records_of lengths run)) lengths run 0 t s.adds b s.passed n in (
      subst (λ (m : ℕ). Kept i.order (records_of lengths run) (map (chain_record i) (from 0 m))) (sym k) q.0,
      ap (λ (m : ℕ). map (λ (j : ℕ). length (chain_record i j)) (from 0 m)) k ∙ q.1,
    )

-- and the run, where all of them were
back_run : (i : LentChains) (lengths run : List ℕ) (ks : List ℕ) → total lengths ≡ length run → Ordered i.order (records_of lengths run)
    → Kept i.order (records_of lengths run) (map (chain_record i) ks) → flat_map (chain_record i) ks ≡ run
unfolding records_of Ordered Kept total flat_map
back_run i [] [] [] s o n = refl
back_run i [] (x ∷ run) ks s o n = absurd (omega arith)
back_run i [] [] (k ∷ ks) s o n = absurd n
back_run i (m ∷ lengths) run [] s o n = absurd n
back_run i (m ∷ lengths) run (k ∷ ks) s o n =
    let d : length (drop m run) ≡ length run - m = length-drop m run in
    ap₂ (λ (x y : List ℕ). x ++ y) (n.0 o.0) (back_run i lengths (drop m run) ks (omega arith) o.1 n.1) ∙ take-append-drop m run

pub write_back : (i : LentChains) (run lengths : List ℕ) → run_refusal run lengths ≡ 0 → Ordered i.order (records_of lengths run)
    → Kept i.order (records_of lengths run) (map (chain_record i) (from 0 i.number)) → run_of i ≡ run
unfolding run_of
write_back i run lengths z o n = back_run i lengths run (from 0 i.number) (sound run lengths z).adds o n
