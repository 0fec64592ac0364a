-- The test of a record, arm by arm, and what a chain that stands gives: its record is in the table, and its coordinates in the slice of its source.
use Prim.Native.Nat.{ℕ, ◌+◌, ◌-◌, ◌*◌, ◌/◌, ◌^◌, ◌≤◌, ◌<◌}
use mathlib.Core.Path.{◌≡◌, refl, sym, ap, ◌∙◌}
use mathlib.Core.Bool.{Bool, true, false, ◌||◌}
use mathlib.Core.List.{List, []}
use native.Mathlib.Omega.{arith}
use native.Mathlib.Nat.{mul-le-mul_right}
use borrow.Author.Tests.{lt-ltb, le-ltb, ltb-false, eq-eqb, ne_eqb, eqb-true, eqb-false}
use lib.Dec.{ltb, eqb}
use lib.ListN.{length, take, drop}
use Rattle.rules.specs.Refusals.{no_chain, source_of, entry, chain_refusal_of, first_of, record_size}
use Rattle.rules.specs.Answers.{Accepted, Refused}
use Rattle.rules.specs.Types.{width_of}
use Rattle.rules.specs.Calls.{asked, viewed, answer_of, unless}
use Rattle.build_question.specs.Parts.{part_of}

module _ (width : ℕ) (input merged table : List ℕ) (k : ℕ) where
  pub no_record : length table / record_size ≤ k → no_chain width input merged table k ≡ true
  unfolding no_chain
  no_record h = simp (lt-ltb (length table) (k * record_size + record_size) (omega arith))

  pub no_source : k < length table / record_size → 1 < entry table k 2 → no_chain width input merged table k ≡ true
  unfolding no_chain
  no_source h s = simp (le-ltb (length table) (k * record_size + record_size) (omega arith), lt-ltb 1 (entry table k 2) s)

  pub room_input : k < length table / record_size → entry table k 2 ≡ 0
      → no_chain width input merged table k ≡ ltb (length input) ((entry table k 3 + entry table k 4) * width)
  unfolding no_chain source_of
  room_input h s = simp (le-ltb (length table) (k * record_size + record_size) (omega arith), s)

  pub room_merged : k < length table / record_size → entry table k 2 ≡ 1
      → no_chain width input merged table k ≡ ltb (length merged) ((entry table k 3 + entry table k 4) * width)
  unfolding no_chain source_of
  room_merged h s = simp (le-ltb (length table) (k * record_size + record_size) (omega arith), s)

-- ---- a chain that stands

-- the part from f to f + c has c elements
part_is : (l : List ℕ) (f c : ℕ) → take (f + c - f) (drop f l) ≡ take c (drop f l)
part_is l f c = let p : f + c - f ≡ c = omega arith in rw p

or_false : (a b : Bool) → a || b ≡ false → (a ≡ false) × (b ≡ false)
or_false true b e = let z : ◌≡◌ {A = ℕ} 0 1 = cc in absurd (omega arith)
or_false false b e = (refl, e)

pub record Stands (width : ℕ) (input merged table : List ℕ) (k : ℕ) : Type 0 where
  pub row : k * record_size + record_size ≤ length table
  pub source : entry table k 2 ≤ 1
  pub part : (entry table k 3 + entry table k 4) * width ≤ length (source_of (entry table k 2) input merged)

module _ (width : ℕ) (input merged table : List ℕ) (k : ℕ) where
  pub stands : no_chain width input merged table k ≡ false → Stands width input merged table k
  unfolding no_chain
  stands e =
      let p = or_false _ _ e in
      let q = or_false _ _ p.1 in
      record {
        row = ltb-false _ _ p.0;
        source = ltb-false _ _ q.0;
        part = ltb-false _ _ q.1;
      }

  pub part_none : no_chain width input merged table k ≡ true → [] ≡ part_of width input merged table k
  unfolding part_of
  part_none e = rw (e, part_of)

  pub part_there : no_chain width input merged table k ≡ false
      → part_of width input merged table k ≡ take (entry table k 4 * width) (drop (entry table k 3 * width) (source_of (entry table k 2) input merged))
  unfolding part_of
  part_there e = rw (e, part_of)

  pub part_input : no_chain width input merged table k ≡ false → entry table k 2 ≡ 0
      → take (entry table k 3 * width + entry table k 4 * width - entry table k 3 * width) (drop (entry table k 3 * width) input) ≡ part_of width input merged table k
  unfolding source_of
  part_input e s = rw (part_there e, s, part_is)

  pub part_merged : no_chain width input merged table k ≡ false → entry table k 2 ≡ 1
      → take (entry table k 3 * width + entry table k 4 * width - entry table k 3 * width) (drop (entry table k 3 * width) merged) ≡ part_of width input merged table k
  unfolding source_of
  part_merged e s = rw (part_there e, s, part_is)

  pub inside_input : Stands width input merged table k → entry table k 2 ≡ 0 → (entry table k 3 + entry table k 4) * width ≤ length input
  unfolding source_of
  inside_input s e = let p = s.part in rw e at p

  pub inside_merged : Stands width input merged table k → entry table k 2 ≡ 1 → (entry table k 3 + entry table k 4) * width ≤ length merged
  unfolding source_of
  inside_merged s e = let p = s.part in rw e at p

-- so many points of a width have fewer than 2 ^ 64 numbers, where there are no more of them than two numbers of 32 bits are
pub few_numbers : (c width : ℕ) → c ≤ 8589934590 → width ≤ 2 ^ 31 → c * width < 2 ^ 64
few_numbers c width h b = omega (arith, mul-le-mul_right width h)

-- a source that isn't 0 is 1
pub one : {width : ℕ} {input merged table : List ℕ} {k : ℕ} → Stands width input merged table k → (entry table k 2 ≡ 0 → ⊥) → entry table k 2 ≡ 1
one s z = let h = s.source in omega arith

-- ---- by the type

module _ (t : ℕ) (input merged table : List ℕ) (k : ℕ) where
  pub untyped : width_of t ≡ 0 → chain_refusal_of t input merged table k ≡ 12
  unfolding chain_refusal_of first_of
  untyped e = rw (eq-eqb (width_of t) 0 e, first_of)

  pub refused : (width_of t ≡ 0 → ⊥) → no_chain (width_of t) input merged table k ≡ true → chain_refusal_of t input merged table k ≡ 10
  unfolding chain_refusal_of first_of
  refused n e = rw (ne_eqb (width_of t) 0 n, e, first_of)

  pub accepted : (width_of t ≡ 0 → ⊥) → no_chain (width_of t) input merged table k ≡ false → chain_refusal_of t input merged table k ≡ 0
  unfolding chain_refusal_of first_of
  accepted n e = rw (ne_eqb (width_of t) 0 n, e, first_of)

  pub asked_untyped : {w : ℕ} → w ≡ width_of t → w ≡ 0 → Refused 12 ≡ asked t input merged table k
  unfolding asked answer_of unless
  asked_untyped f e = rw (untyped (sym f ∙ e))

  pub asked_none : {w : ℕ} → w ≡ width_of t → (w ≡ 0 → ⊥) → no_chain w input merged table k ≡ true → Refused 10 ≡ asked t input merged table k
  unfolding asked answer_of unless
  asked_none f n e = rw (refused (λ z. n (f ∙ z)) (ap (λ (v : ℕ). no_chain v input merged table k) (sym f) ∙ e))

  pub asked_there : {w : ℕ} → w ≡ width_of t → (w ≡ 0 → ⊥) → no_chain w input merged table k ≡ false → Accepted 0 ≡ asked t input merged table k
  unfolding asked answer_of unless
  asked_there f n e = rw (accepted (λ z. n (f ∙ z)) (ap (λ (v : ℕ). no_chain v input merged table k) (sym f) ∙ e))

  -- the view is the part by the type's width; of width 0 it is nothing
  pub viewed_part : viewed t input merged table k ≡ part_of (width_of t) input merged table k
  unfolding viewed unless
  viewed_part = go (eqb (width_of t) 0) (no_chain (width_of t) input merged table k) refl refl
    where
      go : (a b : Bool) → eqb (width_of t) 0 ≡ a → no_chain (width_of t) input merged table k ≡ b → viewed t input merged table k ≡ part_of (width_of t) input merged table k
      go true true e f = rw (untyped (eqb-true _ _ e)) (part_none (width_of t) input merged table k f)
      go true false e f = rw (untyped (eqb-true _ _ e)) (sym (part_there (width_of t) input merged table k f ∙ nothing (eqb-true _ _ e)))
        where
          nothing : width_of t ≡ 0 → take (entry table k 4 * width_of t) (drop (entry table k 3 * width_of t) (source_of (entry table k 2) input merged)) ≡ []
          nothing z =
              let m : entry table k 4 * width_of t ≡ entry table k 4 * 0 = ap (λ (w : ℕ). entry table k 4 * w) z in
              let e : entry table k 4 * width_of t ≡ 0 = omega arith in
              rw e
      go false true e f = rw (refused (eqb-false _ _ e) f) (part_none (width_of t) input merged table k f)
      go false false e f = rw (accepted (eqb-false _ _ e) f) (sym (part_there (width_of t) input merged table k f))

  pub view_is : {w : ℕ} {l : List ℕ} → w ≡ width_of t → l ≡ part_of w input merged table k → l ≡ viewed t input merged table k
  view_is f e = e ∙ ap (λ (w : ℕ). part_of w input merged table k) f ∙ sym viewed_part
