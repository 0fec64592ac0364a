-- Without extras reading is refused as it was before there were any: of type 2, and of what is no type.
use Prim.Native.Nat.{ℕ}
use mathlib.Core.Path.{◌≡◌, refl, sym, ap, ◌∙◌}
use mathlib.Core.Bool.{Bool, true, false, not, ◌||◌, true≢false}
use mathlib.Core.List.{List, [], ◌∷◌}
use native.Mathlib.Omega.{arith}
use lib.Dec.{eqb, ltb}
use lib.ListN.{length}
use borrow.Author.Tests.{eqb-true, ne_eqb}
use Rattle.rules.specs.Lists.{total}
use Rattle.rules.specs.Refusals.{first_of}
use Rattle.rules.specs.Types.{width_of, no_type}
use Rattle.rules.specs.Wkb.{byte_order, count_of, size_of, type_of, run_type, records_of, record_refusal, records_refusal, run_refusal}
use Rattle.wkb_records.specs.Two.{two_refusal, two_refusals, two_run_refusal, NoExtras}

-- the five tests and the four, by the type: it is 2, the run's, or it is none
ladder : (a b e : Bool) → first_of ((13, a) ∷ (11, b) ∷ (12, false) ∷ (25, false) ∷ (13, e) ∷ []) ≡ first_of ((13, a) ∷ (11, b) ∷ (12, false) ∷ (13, e) ∷ [])
unfolding first_of
ladder true b e = refl
ladder false true e = refl
ladder false false e = refl

ladder_none : (a b c d e : Bool) → first_of ((13, a) ∷ (11, b) ∷ (12, true) ∷ (25, c) ∷ (13, d) ∷ []) ≡ first_of ((13, a) ∷ (11, b) ∷ (12, true) ∷ (13, e) ∷ [])
unfolding first_of
ladder_none true b c d e = refl
ladder_none false true c d e = refl
ladder_none false false c d e = refl

two_wide : width_of 2 ≡ 2
unfolding width_of
two_wide = refl

of_two : (r : List ℕ) → type_of r ≡ 2 → record_refusal 2 r ≡ two_refusal r
unfolding record_refusal two_refusal
of_two r e = rw (e, two_wide) (ladder _ _ _)

other_type : (r : List ℕ) → no_type (type_of r) ≡ true → eqb (type_of r) 2 ≡ false
other_type r e = ne_eqb _ _ (λ f. true≢false (sym e ∙ ap (λ (n : ℕ). no_type n) f ∙ ap (λ (w : ℕ). eqb w 0) two_wide))

of_none : (t : ℕ) (r : List ℕ) → no_type (type_of r) ≡ true → record_refusal t r ≡ two_refusal r
unfolding record_refusal two_refusal
of_none t r e = rw (e, other_type r e) (ladder_none _ _ _ _ _)

two : (r : List ℕ) → no_type (type_of r) ≡ false → no_type (type_of r) || eqb (type_of r) 2 ≡ true → type_of r ≡ 2
two r e k = eqb-true _ _ (sym (ap (λ (b : Bool). b || eqb (type_of r) 2) e) ∙ k)

-- a record of a run of type 2
module _ (r : List ℕ) (known : no_type (type_of r) || eqb (type_of r) 2 ≡ true) where
  pub record_two : record_refusal 2 r ≡ two_refusal r
  record_two = go (no_type (type_of r)) refl
    where
      go : (b : Bool) → no_type (type_of r) ≡ b → record_refusal 2 r ≡ two_refusal r
      go true e = of_none 2 r e
      go false e = of_two r (two r e known)

pub records_two : (l : List (List ℕ)) → NoExtras l → records_refusal 2 l ≡ two_refusals l
unfolding records_refusal two_refusals NoExtras
records_two [] h = refl
records_two (r ∷ l) h =
    ap (λ (n : ℕ). elim (eqb n 0) [ true ↦ records_refusal 2 l | false ↦ n ]) (record_two r h.0)
    ∙ ap (λ (n : ℕ). elim (eqb (two_refusal r) 0) [ true ↦ n | false ↦ two_refusal r ]) (records_two l h.1)

-- what is no type is refused
some : (a b e : Bool) → first_of ((13, a) ∷ (11, b) ∷ (12, true) ∷ (13, e) ∷ []) ≡ 0 → ⊥
unfolding first_of
some true b e z = absurd (omega arith)
some false true e z = absurd (omega arith)
some false false e z = absurd (omega arith)

none_refused : (r : List ℕ) → no_type (type_of r) ≡ true → two_refusal r ≡ 0 → ⊥
unfolding two_refusal
none_refused r e z =
    some (ltb (length r) 9) (ltb 1 (byte_order r)) (not (eqb (length r) (size_of 2 (count_of r))))
    (ap (λ (b : Bool). first_of ((13, ltb (length r) 9) ∷ (11, ltb 1 (byte_order r)) ∷ (12, not b) ∷ (13, not (eqb (length r) (size_of 2 (count_of r)))) ∷ [])) (sym (other_type r e)) ∙ z)

-- where the first record is of no type the run is refused for it, whichever type it has
first_none : (t : ℕ) (r : List ℕ) (l : List (List ℕ)) → no_type (type_of r) ≡ true → records_refusal t (r ∷ l) ≡ two_refusals (r ∷ l)
unfolding records_refusal two_refusals
first_none t r l e =
    let stop : eqb (two_refusal r) 0 ≡ false = ne_eqb _ _ (none_refused r e) in
    ap (λ (n : ℕ). elim (eqb n 0) [ true ↦ records_refusal t l | false ↦ n ]) (of_none t r e)
    ∙ ap (λ (b : Bool). elim b [ true ↦ records_refusal t l | false ↦ two_refusal r ]) stop
    ∙ sym (ap (λ (b : Bool). elim b [ true ↦ two_refusals l | false ↦ two_refusal r ]) stop)

headless : (r : List ℕ) (l : List (List ℕ)) → ltb (length r) 9 ≡ true → run_type (r ∷ l) ≡ 2
unfolding run_type
headless r l g = rw (g, run_type)

own : (r : List ℕ) (l : List (List ℕ)) → ltb (length r) 9 ≡ false → run_type (r ∷ l) ≡ type_of r
unfolding run_type
own r l g = rw (g, run_type)

all_two : (l : List (List ℕ)) → NoExtras l → records_refusal (run_type l) l ≡ two_refusals l
unfolding NoExtras records_refusal two_refusals
all_two [] k = refl
all_two (r ∷ l) k = by (ltb (length r) 9) (no_type (type_of r)) refl refl
  where
    by : (a b : Bool) → ltb (length r) 9 ≡ a → no_type (type_of r) ≡ b → records_refusal (run_type (r ∷ l)) (r ∷ l) ≡ two_refusals (r ∷ l)
    by true b e f = ap (λ (t : ℕ). records_refusal t (r ∷ l)) (headless r l e) ∙ records_two (r ∷ l) k
    by false true e f = first_none (run_type (r ∷ l)) r l f
    by false false e f = ap (λ (t : ℕ). records_refusal t (r ∷ l)) (own r l e ∙ two r f k.0) ∙ records_two (r ∷ l) k

-- A RUN WITHOUT EXTRAS IS READ OR REFUSED AS IT WAS BEFORE THERE WERE ANY
pub run_two : (run lengths : List ℕ) → NoExtras (records_of lengths run) → run_refusal run lengths ≡ two_run_refusal run lengths
unfolding run_refusal two_run_refusal
run_two run lengths h = go (eqb (total lengths) (length run)) refl
  where
    go : (b : Bool) → eqb (total lengths) (length run) ≡ b → run_refusal run lengths ≡ two_run_refusal run lengths
    go true e = rw (e, run_refusal, two_run_refusal) (all_two (records_of lengths run) h)
    go false e = rw (e, run_refusal, two_run_refusal)
