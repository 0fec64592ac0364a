-- What a writing call answers: refused by one of its tests, or accepted with everything written.
use Prim.Native.Nat.{ℕ, zero, suc, ◌+◌, ◌*◌, ◌≤◌}
use mathlib.Core.Path.{◌≡◌, refl, sym, ap, ◌∙◌}
use mathlib.Core.Bool.{Bool, true, false, ◌||◌}
use mathlib.Core.List.{List, [], ◌∷◌, flat_map}
use native.Mathlib.Omega.{arith}
use lib.ListN.{length, length-append}
use lib.Dec.{eqb, ltb}
use Rattle.rules.specs.Lists.{from}
use Rattle.rules.specs.Refusals.{no_chain, entry, record_size}
use Rattle.rules.specs.Answers.{Accepted, Refused}
use Rattle.rules.specs.Calls.{viewed, unless, answer_of}
use Rattle.build_refusals.proofs.Laws.{Left}
use Rattle.build_question.proofs.Laws.{stands}
use Rattle.rules.specs.Types.{width_of}
use Rattle.rules.specs.Wkb.{any_missing, chain_record, LentChains, run_of, write_refusal_of, Wrote}
use Rattle.wkb_writing.specs.Writing.{bytes_from, Written}
use Rattle.wkb_writing.proofs.Laws.{record_length}
use Rattle.wkb_writing.proofs.Chains.{view_long}

-- ---- chains that are there

-- none of the chains from j on is missing
pub first_there : (w : ℕ) (input merged table : List ℕ) (j n : ℕ) → any_missing w input merged table j (suc n) ≡ false
    → (no_chain w input merged table j ≡ false) × (any_missing w input merged table (suc j) n ≡ false)
unfolding any_missing
first_there w input merged table j n e = go (no_chain w input merged table j) refl
  where
    go : (t : Bool) → no_chain w input merged table j ≡ t → (no_chain w input merged table j ≡ false) × (any_missing w input merged table (suc j) n ≡ false)
    go true q = let z : ◌≡◌ {A = Bool} true false = sym (rw (q, any_missing)) ∙ e in absurd (let y : ◌≡◌ {A = ℕ} 0 1 = cc in omega arith)
    go false q = (q, sym (rw (q, any_missing)) ∙ e)

pub table_long : (w : ℕ) (input merged table : List ℕ) (j n : ℕ) → any_missing w input merged table j (suc n) ≡ false → (j + suc n) * record_size ≤ length table
table_long w input merged table j zero e =
    let st = stands w input merged table j (first_there w input merged table j zero e).0 in omega (arith, st.row)
table_long w input merged table j (suc n) e =
    let more = table_long w input merged table (suc j) n (first_there w input merged table j (suc n) e).1 in omega arith

pub rows_long : (w : ℕ) (input merged table : List ℕ) (k : ℕ) → any_missing w input merged table 0 k ≡ false → k * record_size ≤ length table
rows_long w input merged table zero e = omega arith
rows_long w input merged table (suc k) e = omega (arith, table_long w input merged table 0 k e)

-- the bytes of chains that are there, by their counts
bytes_are : (i : LentChains) (j n : ℕ) → any_missing (width_of i.type) i.input i.merged i.table j n ≡ false
    → length (flat_map (chain_record i) (from j n)) ≡ bytes_from (width_of i.type) i.table j n
unfolding flat_map from bytes_from chain_record
bytes_are i j zero e = refl
bytes_are i j (suc n) e =
    let w = width_of i.type in
    let p = first_there w i.input i.merged i.table j n e in
    omega (
      arith,
      length-append (chain_record i j) (flat_map (chain_record i) (from (suc j) n)),
      bytes_are i (suc j) n p.1,
      record_length i.order i.type (entry i.table j 4) (viewed i.type i.input i.merged i.table j),
      ap (λ (m : ℕ). m * 8) (view_long i.type i.input i.merged i.table j p.0),
    )

pub run_long : (i : LentChains) → any_missing (width_of i.type) i.input i.merged i.table 0 i.number ≡ false
    → length (run_of i) ≡ bytes_from (width_of i.type) i.table 0 i.number
unfolding run_of
run_long i e = bytes_are i 0 i.number e

-- ---- the tests, in order

abbrev pub rooms_short : LentChains → Bool
rooms_short i = ltb (length i.run) (length (run_of i)) || ltb (length i.lengths) i.number

abbrev pub tests : LentChains → List (ℕ × Bool)
tests i =
    (12, eqb (width_of i.type) 0)
    ∷ (16, ltb 1 i.order)
    ∷ (10, any_missing (width_of i.type) i.input i.merged i.table 0 i.number)
    ∷ (14, rooms_short i)
    ∷ []

pub opened : (i : LentChains) → Left (write_refusal_of i) (tests i)
unfolding write_refusal_of
opened i = record { is = refl }

-- the test of the run's room, from the sum of the bytes
pub room_run : (i : LentChains) {w : ℕ} {b : Bool} → w ≡ width_of i.type → any_missing (width_of i.type) i.input i.merged i.table 0 i.number ≡ false
    → b ≡ ltb (length i.run) (bytes_from w i.table 0 i.number) → ltb (length i.run) (length (run_of i)) ≡ b
room_run i {w} {b} e m h = ap (ltb (length i.run)) (run_long i m) ∙ ap (λ (v : ℕ). ltb (length i.run) (bytes_from v i.table 0 i.number)) (sym e) ∙ sym h

-- ---- answers

module _ (i : LentChains) where
  pub wrote_refused : (k : ℕ) → k ≡ write_refusal_of i → (k ≡ 0 → ⊥) → Wrote i (Refused k) i.run i.lengths
  unfolding answer_of unless
  wrote_refused zero e n = absurd (n refl)
  wrote_refused (suc k) e n = record { answer = rw (← e); run = rw (← e); lengths = rw (← e) }

  pub wrote_accepted : {r : ℕ} {run' lengths' : List ℕ} → 0 ≡ write_refusal_of i → Written i r run' lengths' → Wrote i (Accepted r) run' lengths'
  unfolding answer_of unless
  wrote_accepted e s = record { answer = rw (← e) (ap Accepted s.bytes); run = rw (← e) s.records; lengths = rw (← e) s.sizes }

-- ---- the tests, from what the call has at hand: the width of its type

pub width_test : (i : LentChains) (w : ℕ) {b : Bool} → w ≡ width_of i.type → eqb w 0 ≡ b → eqb (width_of i.type) 0 ≡ b
width_test i w e g = ap (λ (v : ℕ). eqb v 0) (sym e) ∙ g

pub missing_test : (i : LentChains) (w : ℕ) {r b : Bool} → w ≡ width_of i.type → r ≡ any_missing w i.input i.merged i.table 0 i.number → r ≡ b
    → any_missing (width_of i.type) i.input i.merged i.table 0 i.number ≡ b
missing_test i w e f g = ap (λ (v : ℕ). any_missing v i.input i.merged i.table 0 i.number) (sym e) ∙ sym f ∙ g

pub either_first : (a b : Bool) → a ≡ true → a || b ≡ true
either_first a b e = rw e

pub either_second : (a b : Bool) → a ≡ false → b ≡ true → a || b ≡ true
either_second a b e f = rw (e, f)

pub neither : (a b : Bool) → a ≡ false → b ≡ false → a || b ≡ false
neither a b e f = rw (e, f)
