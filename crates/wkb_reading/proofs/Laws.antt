-- Laws of reading: sums, the tests of a record, and one more record of a run.
use Prim.Native.Nat.{ℕ, zero, suc, ◌+◌, ◌-◌, ◌*◌, ◌/◌, ◌≤◌, ◌<◌}
use mathlib.Core.Path.{◌≡◌, refl, sym, ap, ap₂, ◌∙◌}
use mathlib.Core.Bool.{Bool, true, false, not}
use mathlib.Core.List.{List, [], ◌∷◌, ◌++◌, map}
use native.Mathlib.Omega.{arith}
use native.Mathlib.Numerals.{add-one}
use lib.ListN.{length, take, drop, get_or, drop_of_length-le, length-drop}
use lib.Seq.{drop-cons, length-take-le, take_all}
use lib.Dec.{eqb, ltb}
use borrow.Author.Tests.{eqb-true, eqb-false, eq-eqb, ne_eqb, lt-ltb, le-ltb}
use Rattle.std.specs.Prelude.{Some, None, slice_get}
use Rattle.std.specs.Simd.{first_chunks}
use Rattle.std.proofs.lemmas.List.{take_more, map-append}
use Rattle.wkb_records.specs.Orders.{order_of, number_in}
use Rattle.wkb_records.proofs.Bytes.{by_order}
use Rattle.rules.specs.Lists.{total}
use Rattle.build_refusals.proofs.Laws.{Left}
use Rattle.wkb_records.proofs.Records.{records_step, records_none, refusal_pass, refusal_stop}
use Rattle.rules.specs.Types.{width_of}
use Rattle.rules.specs.Wkb.{doubles_by, doubles_of, byte_order, type_of, count_of, records_of, run_type, record_refusal, records_refusal}

-- the part from f to f + c has c elements
pub part_is : (l : List ℕ) (f c : ℕ) → take (f + c - f) (drop f l) ≡ take c (drop f l)
part_is l f c = let p : f + c - f ≡ c = omega arith in rw p

-- ---- the tests of a record, in order

abbrev pub tests : ℕ → List ℕ → List (ℕ × Bool)
tests t r =
    (13, ltb (length r) 9)
    ∷ (11, ltb 1 (byte_order r))
    ∷ (12, eqb (width_of (type_of r)) 0)
    ∷ (25, not (eqb (type_of r) t))
    ∷ (13, not (eqb (length r) (9 + count_of r * width_of (type_of r) * 8)))
    ∷ []

pub opened : (t : ℕ) (r : List ℕ) → Left (record_refusal t r) (tests t r)
unfolding record_refusal
opened t r = record { is = refl }

-- ---- the lengths, taken from a number one by one

pub too_long : (s left n rest next : ℕ) → left ≤ n → left + s ≡ n + (next + rest) → left < next → false ≡ eqb s n
too_long s left n rest next a b c = sym (ne_eqb s n (λ e. absurd (omega arith)))

pub nothing_left : (s left n : ℕ) → left + s ≡ n + 0 → eqb left 0 ≡ eqb s n
nothing_left s left n a = go (eqb left 0) refl
  where
    go : (b : Bool) → eqb left 0 ≡ b → eqb left 0 ≡ eqb s n
    go true e = let z : left ≡ 0 = eqb-true left 0 e in e ∙ sym (eq-eqb s n (omega arith))
    go false e = e ∙ sym (ne_eqb s n (λ q. eqb-false left 0 e (omega arith)))

pub total_drop : (l : List ℕ) (i : ℕ) → i < length l → total (drop i l) ≡ get_or l i 0 + total (drop (i + 1) l)
unfolding total
total_drop l i h = rw (drop-cons l i 0 h, add-one)

pub total_end : (l : List ℕ) (i : ℕ) → length l ≤ i → total (drop i l) ≡ 0
unfolding total
total_end l i h = rw (drop_of_length-le l {i = i} h)

-- ---- the tests of a record, from what the code has at hand: its type, its width and its count

pub own_width : (t own w : ℕ) {b : Bool} → own ≡ t → w ≡ width_of own → eqb w 0 ≡ b → eqb (width_of t) 0 ≡ b
own_width t own w e f g = rw (← e, ← f) g

pub own_type : (t own given : ℕ) {b : Bool} → own ≡ t → eqb own given ≡ b → not (eqb t given) ≡ not b
own_type t own given e g = rw (← e) (ap not g)

pub own_size : (t own w count l : ℕ) {n : ℕ} {b : Bool} → own ≡ t → w ≡ width_of own → n ≡ count → eqb l (9 + n * w * 8) ≡ b
    → not (eqb l (9 + count * width_of t * 8)) ≡ not b
own_size t own w count l e f h g = rw (← e, ← f, ← h) (ap not g)

-- ---- one more record of a run

-- the record at place i, which begins at `at`, as the code lends it
pub next : (lengths run : List ℕ) (i at : ℕ) → i < length lengths
    → records_of (drop i lengths) (drop at run)
    ≡ take (at + get_or lengths i 0 - at) (drop at run) ∷ records_of (drop (i + 1) lengths) (drop (at + get_or lengths i 0) run)
next lengths run i at h = rw (part_is run at (get_or lengths i 0)) (records_step lengths run i at h)

module _ (t : ℕ) (lengths run : List ℕ) (i at r whole : ℕ) (h : i < length lengths)
    (w : whole ≡ records_refusal t (records_of (drop i lengths) (drop at run)))
    (e : r ≡ record_refusal t (take (at + get_or lengths i 0 - at) (drop at run))) where
  pub stops : (r ≡ 0 → ⊥) → r ≡ whole
  stops n = sym (w ∙ ap (records_refusal t) (next lengths run i at h) ∙ refusal_stop t _ _ (λ z. n (e ∙ z)) ∙ sym e)

  pub passes : r ≡ 0 → whole ≡ records_refusal t (records_of (drop (i + 1) lengths) (drop (at + get_or lengths i 0) run))
  passes z = w ∙ ap (records_refusal t) (next lengths run i at h) ∙ refusal_pass t _ _ (sym e ∙ z)

pub nothing_refused : (t : ℕ) (lengths run : List ℕ) (i : ℕ) → length lengths ≤ i → records_refusal t (records_of (drop i lengths) run) ≡ 0
unfolding records_refusal
nothing_refused t lengths run i h = ap (records_refusal t) (records_none lengths run i h)

-- ---- the type of a run

pub type_none : (lengths run : List ℕ) → length lengths ≡ 0 → run_type (records_of lengths run) ≡ 2
unfolding run_type records_of
type_none [] run e = refl
type_none (n ∷ l) run e = absurd (omega arith)

first_record : (lengths run : List ℕ) → 0 < length lengths → records_of lengths run ≡ take (get_or lengths 0 0) run ∷ records_of (drop 1 lengths) (drop (get_or lengths 0 0) run)
unfolding records_of
first_record [] run h = absurd (omega arith)
first_record (n ∷ l) run h = refl

pub type_short : (lengths run : List ℕ) → 0 < length lengths → total lengths ≡ length run → get_or lengths 0 0 < 9 → run_type (records_of lengths run) ≡ 2
unfolding run_type
type_short lengths run h s k =
    let m : length (take (get_or lengths 0 0) run) ≡ get_or lengths 0 0 = length-take-le (get_or lengths 0 0) run (omega (arith, total_drop lengths 0 h)) in
    rw (first_record lengths run h) (rw (lt-ltb (length (take (get_or lengths 0 0) run)) 9 (omega arith), run_type))

pub type_first : (lengths run : List ℕ) → 0 < length lengths → total lengths ≡ length run → 9 ≤ get_or lengths 0 0
    → run_type (records_of lengths run) ≡ type_of (take (get_or lengths 0 0) run)
unfolding run_type
type_first lengths run h s k =
    let m : length (take (get_or lengths 0 0) run) ≡ get_or lengths 0 0 = length-take-le (get_or lengths 0 0) run (omega (arith, total_drop lengths 0 h)) in
    rw (first_record lengths run h) (rw (le-ltb (length (take (get_or lengths 0 0) run)) 9 (omega arith), run_type))

-- the first length, as the library gives it
pub first_is : (l : List ℕ) (n : ℕ) → Some n ≡ slice_get l 0 → (0 < length l) × (n ≡ get_or l 0 0)
first_is [] n e = absurd (cc)
first_is (x ∷ l) n e = (omega arith, cc)

pub first_none : (l : List ℕ) → None ≡ slice_get l 0 → length l ≡ 0
first_none [] e = refl
first_none (x ∷ l) e = absurd (cc)

-- ---- eight bytes after eight

pub chunk_more : {A B : Type 0} (f : List A → B) (l : List (List A)) (k : ℕ) → k < length l → map f (take k l) ++ (f (get_or l k []) ∷ []) ≡ map f (take (k + 1) l)
chunk_more f l k h = sym (ap (map f) (take_more l k [] h) ∙ map-append f (take k l) (get_or l k [] ∷ []))

pub chunks_doubles : (o n : ℕ) (l : List ℕ) → map (number_in (order_of o)) (first_chunks 8 n l) ≡ doubles_by o n l
unfolding doubles_by
chunks_doubles o zero l = refl
chunks_doubles o (suc n) l = ap₂ (λ (a : ℕ) (r : List ℕ). a ∷ r) (by_order o (take 8 l)) (chunks_doubles o n (drop 8 l))

-- all that stands behind the header
pub chunks_are : (bytes : List ℕ) (l : List (List ℕ)) (k : ℕ) → 9 ≤ length bytes → l ≡ first_chunks 8 (length (take (length bytes - 9) (drop 9 bytes)) / 8) (take (length bytes - 9) (drop 9 bytes))
    → length l ≡ (length bytes - 9) / 8 → (length bytes - 9) / 8 ≤ k → map (number_in (order_of (get_or bytes 0 0))) (take k l) ≡ doubles_of bytes
unfolding doubles_of byte_order
chunks_are bytes l k h e n b =
    let a : take (length bytes - 9) (drop 9 bytes) ≡ drop 9 bytes = take_all (length bytes - 9) (drop 9 bytes) (omega (arith, length-drop 9 bytes)) in
    let c : length (drop 9 bytes) ≡ length bytes - 9 = length-drop 9 bytes in
    ap (map (number_in (order_of (get_or bytes 0 0)))) (take_all k l (omega arith) ∙ e)
    ∙ ap (λ s. map (number_in (order_of (get_or bytes 0 0))) (first_chunks 8 (length s / 8) s)) a
    ∙ ap (λ n. map (number_in (order_of (get_or bytes 0 0))) (first_chunks 8 (n / 8) (drop 9 bytes))) c
    ∙ chunks_doubles (get_or bytes 0 0) ((length bytes - 9) / 8) (drop 9 bytes)
