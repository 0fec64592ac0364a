-- What the route keeps where a pair is taken: it is written, both ends leave the index, and then both hand on their slots. So the ends that have handed on their
-- slots are again all that are taken.
use Prim.Native.Nat.{ℕ, ◌+◌, ◌*◌, ◌^◌, ◌<◌}
use mathlib.Core.Path.{◌≡◌, refl, sym, ◌∙◌, ap, subst, fun_ext}
use mathlib.Core.Bool.{Bool, true, false, ◌||◌}
use mathlib.Core.List.{List}
use native.Mathlib.Omega.{arith}
use lib.Dec.{eqb}
use lib.ListN.{set}
use borrow.Author.Tests.{eq-eqb}
use Rattle.rules.specs.Selecting.{End}
use Rattle.pair_laws.specs.Ranked.{RankedPair, mark}
use Rattle.pair_laws.specs.Taking.{used_of}
use Rattle.pair_laws.proofs.Taking.{used_mark}
use Rattle.pair_tree.specs.Words.{Changes}
use Rattle.pair_tree.proofs.Words.{changes_set, changes_then, changes_wider}
use Rattle.pair_index.specs.Nodes.{Removes}
use Rattle.pair_owners.specs.Tables.{position_at}
use Rattle.pair_owners.specs.Owners.{without}
use Rattle.pair_owners.proofs.Next.{is_without}
use Rattle.pair_ends.specs.Blocks.{pairs_from, marks_from, order_from, index_from, note_from}
use Rattle.pair_indexed.specs.Route.{pairs_in, marks_in, taken_in, Owning, Retires, marked, Replaces, Replaced, Takes, Takings}
use Rattle.pair_indexed.proofs.Third.{no_third}
use Rattle.pair_indexed.proofs.Parts.{same_below, same_beyond, slice_kept, slice_set, marks_kept, marks_length}
use Rattle.pair_indexed.proofs.Keeping.{index_whole, owning_written, owning_retired, marks_retired, retired_changes}

module _ {l : List End} {w : List ℕ} {d height slots limit n i j : ℕ} (t : Takes w d height slots limit n i j)
    (s : Owning l w d height slots limit (taken_in w d) slots) where
  abbrev w₁ : List ℕ
  w₁ = set (set w (d * pairs_from + n * 2) i) (d * pairs_from + n * 2 + 1) j

  i_in : i < d
  i_in = omega (arith, t.lower, t.below)

  written : Changes w w₁ (d * pairs_from) (d * marks_from)
  written =
      changes_then (changes_set w (d * pairs_from + n * 2) i (d * pairs_from) (d * marks_from) (omega arith) (omega (arith, t.place)))
      (changes_set (set w (d * pairs_from + n * 2) i) (d * pairs_from + n * 2 + 1) j (d * pairs_from) (d * marks_from) (omega arith) (omega (arith, t.place)))

  pairs₁ : pairs_in w₁ d ≡ set (set (pairs_in w d) (n + n) i) (n + n + 1) j
  pairs₁ =
      ap (λ (k : ℕ). pairs_in (set (set w (d * pairs_from + n * 2) i) k j) d) second
      ∙ slice_set (set w (d * pairs_from + n * 2) i) (d * pairs_from) (d * marks_from) (n + n + 1) j (omega (arith, t.place))
      ∙ ap (λ (x : List ℕ). set x (n + n + 1) j) (ap (λ (k : ℕ). pairs_in (set w k i) d) first ∙ slice_set w (d * pairs_from) (d * marks_from) (n + n) i (omega (arith, t.place)))
    where
      first : d * pairs_from + n * 2 ≡ d * pairs_from + (n + n)
      first = omega arith

      second : d * pairs_from + n * 2 + 1 ≡ d * pairs_from + (n + n + 1)
      second = omega arith

  s₁ : Owning l w₁ d height slots limit (taken_in w d) slots
  s₁ = owning_written s written

  marks₁ : marks_in w₁ d ≡ marks_in w d
  marks₁ = marks_kept w w₁ d s.ground.room written.long (same_beyond written (d * marks_from) (d * order_from) (omega arith))

  pub retires_i : Retires w₁ d (2 ^ height) i
  retires_i = record { room = s₁.ground.room; within = i_in; most = s.ground.sized.most; whole = index_whole s₁ i i_in }

  module _ {w₂ : List ℕ} (r₂ : Removes (marked w₁ d i) w₂ (d * index_from) (2 ^ height) (position_at w₁ d i)) where
    s₂ : Owning l w₂ d height slots limit (taken_in w d) slots
    s₂ = owning_retired s₁ i i_in r₂

    pub retires_j : Retires w₂ d (2 ^ height) j
    retires_j = record { room = s₂.ground.room; within = t.below; most = s.ground.sized.most; whole = index_whole s₂ j t.below }

    module _ {w₃ : List ℕ} (r₃ : Removes (marked w₂ d j) w₃ (d * index_from) (2 ^ height) (position_at w₂ d j)) where
      s₃ : Owning l w₃ d height slots limit (taken_in w d) slots
      s₃ = owning_retired s₂ j t.below r₃

      marks₃ : marks_in w₃ d ≡ set (set (marks_in w d) i 1) j 1
      marks₃ =
          marks_retired s₂ j t.below r₃
          ∙ ap (λ (m : List ℕ). set m j 1) (marks_retired s₁ i i_in r₂ ∙ ap (λ (m : List ℕ). set m i 1) marks₁)

      p : RankedPair
      p = record { key = 0; i = i; j = j }

      taken₃ : taken_in w₃ d ≡ mark p (taken_in w d)
      unfolding p
      taken₃ =
          ap used_of marks₃
          ∙ used_mark (marks_in w d) p (omega (arith, i_in, marks_length w d s.ground.room)) (omega (arith, t.below, marks_length w d s.ground.room))

      -- both ends are taken, and have not handed on their slots
      marked_i : (a b c : Bool) → a ≡ true → (a || b || c) ≡ true
      marked_i a b c h = rw h

      marked_j : (a b c : Bool) → b ≡ true → (a || b || c) ≡ true
      marked_j true b c h = refl
      marked_j false b c h = rw h

      taken_i : taken_in w₃ d i ≡ true
      unfolding mark p
      taken_i = ap (λ (f : ℕ → Bool). f i) taken₃ ∙ marked_i (eqb i i) (eqb i j) (taken_in w d i) (eq-eqb i i refl)

      taken_j : taken_in w₃ d j ≡ true
      unfolding mark p
      taken_j = ap (λ (f : ℕ → Bool). f j) taken₃ ∙ marked_j (eqb j i) (eqb j j) (taken_in w d j) (eq-eqb j j refl)

      pub replaces_i : Replaces w₃ d slots height limit i
      replaces_i = record { l = l; past = taken_in w d; owning = s₃; within = i_in; taken = taken_i; holds = t.free_i }

      module _ {w₄ : List ℕ} (r₄ : Replaced w₃ w₄ d slots height limit i) where
        s₄ : Owning l w₄ d height slots limit (without (taken_in w d) i) slots
        s₄ = r₄.owning l (taken_in w d) s₃ t.free_i

        marks₄ : marks_in w₄ d ≡ marks_in w₃ d
        marks₄ = marks_kept w₃ w₄ d s₃.ground.room r₄.kept.long (same_below r₄.kept (d * marks_from) (d * order_from) (omega arith))

        j_holds : without (taken_in w d) i j ≡ false
        j_holds = is_without (taken_in w d) i j (λ e. omega (arith, t.lower)) t.free_j

        pub replaces_j : Replaces w₄ d slots height limit j
        replaces_j =
            record { l = l; past = without (taken_in w d) i; owning = s₄; within = t.below; taken = ap (λ (m : List ℕ). used_of m j) marks₄ ∙ taken_j; holds = j_holds }

        module _ {w₅ : List ℕ} (r₅ : Replaced w₄ w₅ d slots height limit j) where
          marks₅ : marks_in w₅ d ≡ marks_in w₃ d
          marks₅ = marks_kept w₄ w₅ d s₄.ground.room r₅.kept.long (same_below r₅.kept (d * marks_from) (d * order_from) (omega arith)) ∙ marks₄

          turned : (a b c : Bool) → (b || (a || c)) ≡ (a || b || c)
          turned true true c = refl
          turned true false c = refl
          turned false true c = refl
          turned false false c = refl

          handed_all : without (without (taken_in w d) i) j ≡ taken_in w₅ d
          unfolding mark p
          handed_all = fun_ext (λ e. turned (eqb e i) (eqb e j) (taken_in w d e)) ∙ sym (ap used_of marks₅ ∙ taken₃)

          pub owning_taken : Owning l w₅ d height slots limit (taken_in w₅ d) slots
          owning_taken =
              subst (λ (f : ℕ → Bool). Owning l w₅ d height slots limit f slots) handed_all (r₅.owning l (without (taken_in w d) i) s₄ j_holds)

          pub marks_taken : marks_in w₅ d ≡ set (set (marks_in w d) i 1) j 1
          marks_taken = marks₅ ∙ marks₃

          later : Changes w₁ w₅ (d * marks_from) (d * note_from)
          later =
              changes_then (changes_then (retired_changes s₁ i i_in r₂) (retired_changes s₂ j t.below r₃))
              (changes_wider (d * marks_from) (d * note_from) (omega arith) (omega arith) (changes_then r₄.kept r₅.kept))

          pub pairs_taken : pairs_in w₅ d ≡ set (set (pairs_in w d) (n + n) i) (n + n + 1) j
          pairs_taken =
              slice_kept w₁ w₅ (d * pairs_from) (d * marks_from) later.long (omega (arith, s₁.ground.room.long)) (same_below later (d * pairs_from) (d * marks_from) (omega arith))
              ∙ pairs₁

          pub taken_changes : Changes w w₅ (d * pairs_from) (d * note_from)
          taken_changes = changes_then (changes_wider (d * pairs_from) (d * note_from) (omega arith) (omega arith) written) (changes_wider (d * pairs_from) (d * note_from) (omega arith) (omega arith) later)

-- ---- what taking the pair asks and gives, by the number of leaves

module _ {w : List ℕ} {d base height slots limit n i j : ℕ} (e : base ≡ 2 ^ height) (t : Takes w d height slots limit n i j) where
  there : {u v : List ℕ} {p : ℕ} → Removes u v (d * index_from) base p → Removes u v (d * index_from) (2 ^ height) p
  there {u} {v} {p} r = subst (λ (b : ℕ). Removes u v (d * index_from) b p) e r

  pub takes_i : Retires (set (set w (d * pairs_from + n * 2) i) (d * pairs_from + n * 2 + 1) j) d base i
  takes_i = subst (λ (b : ℕ). Retires (set (set w (d * pairs_from + n * 2) i) (d * pairs_from + n * 2 + 1) j) d b i) (sym e) (retires_i t t.owning)

  module _ {w₂ : List ℕ}
      (r₂ : Removes (marked (set (set w (d * pairs_from + n * 2) i) (d * pairs_from + n * 2 + 1) j) d i) w₂ (d * index_from) base (position_at (set (set w (d * pairs_from + n * 2) i) (d * pairs_from + n * 2 + 1) j) d i)) where
    pub takes_j : Retires w₂ d base j
    takes_j = subst (λ (b : ℕ). Retires w₂ d b j) (sym e) (retires_j t t.owning (there r₂))

    module _ {w₃ : List ℕ} (r₃ : Removes (marked w₂ d j) w₃ (d * index_from) base (position_at w₂ d j)) where
      pub hands_i : Replaces w₃ d slots height limit i
      hands_i = replaces_i t t.owning (there r₂) (there r₃)

      module _ {w₄ : List ℕ} (r₄ : Replaced w₃ w₄ d slots height limit i) where
        pub hands_j : Replaces w₄ d slots height limit j
        hands_j = replaces_j t t.owning (there r₂) (there r₃) r₄

        pub takings : {w₅ : List ℕ} → Replaced w₄ w₅ d slots height limit j → Takings w w₅ d height slots limit n i j
        takings r₅ =
            record {
              owning = λ l s. owning_taken t s (there r₂) (there r₃) r₄ r₅;
              pairs = pairs_taken t t.owning (there r₂) (there r₃) r₄ r₅;
              marks = marks_taken t t.owning (there r₂) (there r₃) r₄ r₅;
              kept = taken_changes t t.owning (there r₂) (there r₃) r₄ r₅;
              few = no_third (owning_taken t t.owning (there r₂) (there r₃) r₄ r₅);
            }
