-- Records of a run, one by one: the next record, the refusal of the first bad one, and what a record has that is not refused.
use Prim.Native.Nat.{ℕ, zero, suc, ◌+◌, ◌-◌, ◌*◌, ◌/◌, ◌≤◌, ◌<◌}
use mathlib.Core.Path.{◌≡◌, refl, sym, ap, ◌∙◌}
use mathlib.Core.Bool.{Bool, true, false}
use mathlib.Core.List.{List, [], ◌∷◌, ◌++◌}
use native.Mathlib.Omega.{arith}
use native.Mathlib.Numerals.{add-one}
use lib.ListN.{length, take, drop, get_or, length-append, length-drop, drop_of_length-le}
use lib.Seq.{drop-cons, drop-drop, length-take-le}
use lib.Dec.{eqb}
use borrow.Author.Tests.{eqb-true, eqb-false, eq-eqb, ne_eqb, ltb-false, not-false}
use Rattle.rules.specs.Lists.{total}
use Rattle.rules.specs.Refusals.{first_of}
use Rattle.rules.specs.Types.{width_of}
use Rattle.rules.specs.Wkb.{byte_order, type_of, count_of, size_of, number_by, doubles_by, doubles_of, records_of, record_refusal, records_refusal, coordinates_of, counts_of}

-- ---- the next record

pub records_step : (lengths run : List ℕ) (i at : ℕ) → i < length lengths
    → records_of (drop i lengths) (drop at run) ≡ take (get_or lengths i 0) (drop at run) ∷ records_of (drop (i + 1) lengths) (drop (at + get_or lengths i 0) run)
unfolding records_of
records_step lengths run i at h = rw (drop-cons lengths i 0 h, add-one, drop-drop (get_or lengths i 0) at run)

pub records_none : (lengths run : List ℕ) (i : ℕ) → length lengths ≤ i → records_of (drop i lengths) run ≡ []
unfolding records_of
records_none lengths run i h = rw (drop_of_length-le lengths {i = i} h)

-- ---- the first bad record decides

module _ (t : ℕ) (r : List ℕ) (l : List (List ℕ)) where
  pub refusal_pass : record_refusal t r ≡ 0 → records_refusal t (r ∷ l) ≡ records_refusal t l
  unfolding records_refusal
  refusal_pass e = rw (eq-eqb (record_refusal t r) 0 e, records_refusal)

  pub refusal_stop : (record_refusal t r ≡ 0 → ⊥) → records_refusal t (r ∷ l) ≡ record_refusal t r
  unfolding records_refusal
  refusal_stop e = rw (ne_eqb (record_refusal t r) 0 e, records_refusal)

-- ---- a record that is not refused

pub record Good (t : ℕ) (r : List ℕ) : Type 0 where
  pub headed : 9 ≤ length r
  pub ordered : byte_order r ≤ 1
  pub typed : type_of r ≡ t
  pub known : width_of t ≡ 0 → ⊥
  pub long : length r ≡ size_of (width_of t) (count_of r)

-- the test isn't met, and the others have no refusal
off : (k : ℕ) (b : Bool) (l : List (ℕ × Bool)) → first_of ((suc k, b) ∷ l) ≡ 0 → (b ≡ false) × (first_of l ≡ 0)
unfolding first_of
off k true l e = absurd (omega arith)
off k false l e = (refl, e)

pub good : (t : ℕ) (r : List ℕ) → record_refusal t r ≡ 0 → Good t r
unfolding record_refusal
good t r e =
    let t₁ = off _ _ _ e in
    let t₂ = off _ _ _ t₁.1 in
    let t₃ = off _ _ _ t₂.1 in
    let t₄ = off _ _ _ t₃.1 in
    let t₅ = off _ _ _ t₄.1 in
    let own : type_of r ≡ t = eqb-true _ _ (not-false _ t₄.0) in
    record {
      headed = ltb-false _ _ t₁.0;
      ordered = ltb-false _ _ t₂.0;
      typed = own;
      known = eqb-false _ _ (ap (λ (n : ℕ). eqb (width_of n) 0) (sym own) ∙ t₃.0);
      long = eqb-true _ _ (not-false _ t₅.0) ∙ ap (λ (n : ℕ). size_of (width_of n) (count_of r)) own;
    }

-- all records of a run that is not refused
pub first_good : (t : ℕ) (r : List ℕ) (l : List (List ℕ)) → records_refusal t (r ∷ l) ≡ 0
    → Good t r × (records_refusal t l ≡ 0)
first_good t r l e = go (eqb (record_refusal t r) 0) refl
  where
    go : (b : Bool) → eqb (record_refusal t r) 0 ≡ b → Good t r × (records_refusal t l ≡ 0)
    go true h = (good t r (eqb-true _ _ h), sym (refusal_pass t r l (eqb-true _ _ h)) ∙ e)
    go false h = absurd (eqb-false _ _ h (sym (refusal_stop t r l (eqb-false _ _ h)) ∙ e))

-- ---- how many numbers there are

pub numbers_length : (o n : ℕ) (l : List ℕ) → length (doubles_by o n l) ≡ n
unfolding doubles_by
numbers_length o zero l = refl
numbers_length o (suc n) l = ap suc (numbers_length o n (drop 8 l))

pub record_numbers : (r : List ℕ) → length (doubles_of r) ≡ (length r - 9) / 8
unfolding doubles_of
record_numbers r = numbers_length (byte_order r) ((length r - 9) / 8) (drop 9 r)

pub counts_length : (lengths run : List ℕ) → length (counts_of (records_of lengths run)) ≡ length lengths
unfolding counts_of records_of
counts_length [] run = refl
counts_length (n ∷ l) run = ap suc (counts_length l (drop n run))

-- the numbers of a run that is not refused, by its length: eight bytes each, and nine for each record
pub run_numbers : (t : ℕ) (lengths run : List ℕ) → total lengths ≡ length run → records_refusal t (records_of lengths run) ≡ 0
    → length (coordinates_of (records_of lengths run)) * 8 + length lengths * 9 ≡ length run
unfolding coordinates_of records_of total
run_numbers t [] run s e = s
run_numbers t (n ∷ l) run s e =
    let g = first_good t (take n run) (records_of l (drop n run)) e in
    let k : length (take n run) ≡ n = length-take-le n run (omega arith) in
    let d : length (drop n run) ≡ length run - n = simp length-drop in
    let more = run_numbers t l (drop n run) (omega arith) g.1 in
    let w : ℕ = width_of t in
    let size : length (take n run) ≡ 9 + count_of (take n run) * w * 8 = g.0.long in
    omega (arith, length-append (doubles_of (take n run)) (coordinates_of (records_of l (drop n run))), record_numbers (take n run))

-- ---- one more number of a record

numbers_snoc : (o k : ℕ) (l : List ℕ) → doubles_by o (suc k) l ≡ doubles_by o k l ++ (number_by o (take 8 (drop (k * 8) l)) ∷ [])
unfolding doubles_by
numbers_snoc o zero l = refl
numbers_snoc o (suc k) l =
    let e : 8 + k * 8 ≡ suc k * 8 = omega arith in
    ap (λ (t : List ℕ). number_by o (take 8 l) ∷ t) (numbers_snoc o k (drop 8 l) ∙ rw (drop-drop (k * 8) 8 l, e))

pub numbers_more : (o k : ℕ) (r : List ℕ) → doubles_by o k (drop 9 r) ++ (number_by o (take 8 (drop (9 + k * 8) r)) ∷ []) ≡ doubles_by o (k + 1) (drop 9 r)
numbers_more o k r = sym (rw add-one (numbers_snoc o k (drop 9 r) ∙ rw (drop-drop (k * 8) 9 r)))
