-- The parts of the workspace: what is written in one leaves the others, as lists, as tables and as trees.
use Prim.Native.Nat.{ℕ, ◌+◌, ◌-◌, ◌*◌, ◌≤◌, ◌<◌, min}
use mathlib.Core.Path.{◌≡◌, sym, ◌∙◌, ap}
use mathlib.Core.Bool.{true, false, not}
use mathlib.Core.List.{List}
use mathlib.Core.Logic.{⊎_elim}
use native.Mathlib.Omega.{arith}
use lib.Dec.{eqb}
use borrow.Author.Tests.{eq-eqb, ne_eqb}
use lib.ListN.{length, get_or, set, take, drop, length-drop}
use lib.Seq.{slice, length-slice, take-set-lt, drop-set-add, get_or-drop, get_or-take, length-take-le, ext_get_or}
use Rattle.pair_bounds.specs.declared.Bounds.{Bounds}
use Rattle.pair_bounds.specs.Box.{union_of, Sound}
use Rattle.pair_bounds.proofs.Reading.{bounds_alone, place_alone}
use Rattle.pair_tree.specs.Rows.{Any}
use Rattle.pair_ends.specs.Blocks.{pairs_from, marks_from, order_from, heap_from, index_from}
use Rattle.pair_ends.specs.Ends.{EndsRoom, ends_in}
use Rattle.pair_ends.proofs.Reading.{get_d_slice, ends_in_kept}
use Rattle.pair_tree.specs.Words.{Changes}
use Rattle.pair_tree.specs.Flat.{changed, own}
use Rattle.pair_laws.specs.Ranked.{RankedPair}
use Rattle.pair_tree.proofs.Flat.{same_or, kept_agree, kept_same}
use Rattle.pair_tree.proofs.Words.{changes_set}
use Rattle.pair_index.specs.Nodes.{node_at, Indexes, IndexWhole}
use Rattle.pair_heap.specs.Heap.{coded}
use Rattle.pair_heap.specs.Heap as heap
use Rattle.pair_owners.specs.Tables.{mark_at, position_at}
use Rattle.pair_owners.proofs.Next.{same_at, same_past}
use Rattle.pair_indexed.specs.Route.{pairs_in, marks_in, taken_in, Heaped, Retires, marked}

-- the words from a to b are unchanged
abbrev pub Same : List ℕ → List ℕ → ℕ → ℕ → Type 0
Same w w' a b = (k : ℕ) → a ≤ k → k < b → get_or w' k 0 ≡ get_or w k 0

pub same_below : {w w' : List ℕ} {a b : ℕ} → Changes w w' a b → (x y : ℕ) → y ≤ a → Same w w' x y
same_below c x y h k p q = c.below k (omega arith)

pub same_beyond : {w w' : List ℕ} {a b : ℕ} → Changes w w' a b → (x y : ℕ) → b ≤ x → Same w w' x y
same_beyond c x y h k p q = c.beyond k (omega arith)

-- ---- lists

pub slice_kept : (w w' : List ℕ) (a b : ℕ) → length w' ≡ length w → b ≤ length w → Same w w' a b → slice a b w' ≡ slice a b w
slice_kept w w' a b l h f =
    ext_get_or 0 (slice a b w') (slice a b w) (length-slice a b w' (omega arith) ∙ sym (length-slice a b w h)) (λ i k.
    let j : a + i < b = omega (arith, k, length-slice a b w' (omega arith)) in
    get_d_slice a b w' i j ∙ f (a + i) (omega arith) j ∙ sym (get_d_slice a b w i j))

pub drop_kept : (w w' : List ℕ) (a : ℕ) → length w' ≡ length w → ((k : ℕ) → a ≤ k → get_or w' k 0 ≡ get_or w k 0) → drop a w' ≡ drop a w
drop_kept w w' a l f =
    ext_get_or 0 (drop a w') (drop a w) (simp length-drop (omega arith))
    (λ i k. get_or-drop a w' i 0 ∙ f (a + i) (omega arith) ∙ sym (get_or-drop a w i 0))

pub slice_set : (w : List ℕ) (a b i v : ℕ) → a + i < b → slice a b (set w (a + i) v) ≡ set (slice a b w) i v
slice_set w a b i v h = ap (drop a) (take-set-lt b w (a + i) v h) ∙ drop-set-add a (take b w) i v

-- ---- marks

module _ (w : List ℕ) (d : ℕ) where
  pub taken_at : (e : ℕ) → e < d → taken_in w d e ≡ not (eqb (mark_at w d e) 0)
  taken_at e h = ap (λ (x : ℕ). not (eqb x 0)) (get_d_slice (d * marks_from) (d * order_from) w e (omega arith))

  pub is_taken : (e : ℕ) → e < d → (mark_at w d e ≡ 0 → ⊥) → taken_in w d e ≡ true
  is_taken e h n = taken_at e h ∙ ap not (ne_eqb (mark_at w d e) 0 n)

  pub is_free : (e : ℕ) → e < d → mark_at w d e ≡ 0 → taken_in w d e ≡ false
  is_free e h z = taken_at e h ∙ ap not (eq-eqb (mark_at w d e) 0 z)

  pub marks_length : EndsRoom w d → length (marks_in w d) ≡ d
  marks_length r = length-slice (d * marks_from) (d * order_from) w (omega (arith, r.long)) ∙ left
    where
      left : d * order_from - d * marks_from ≡ d
      left = omega arith

  pub pairs_length : EndsRoom w d → length (pairs_in w d) ≡ d
  pairs_length r = length-slice (d * pairs_from) (d * marks_from) w (omega (arith, r.long)) ∙ left
    where
      left : d * marks_from - d * pairs_from ≡ d
      left = omega arith

pub marks_kept : (w w' : List ℕ) (d : ℕ) → EndsRoom w d → length w' ≡ length w → Same w w' (d * marks_from) (d * order_from) → marks_in w' d ≡ marks_in w d
marks_kept w w' d r l f = slice_kept w w' (d * marks_from) (d * order_from) l (omega (arith, r.long)) f

-- ---- trees

pub indexes_kept : (w w' : List ℕ) (t base : ℕ) (l : ℕ → Bounds) → Same w w' t (t + 10 * base) → Indexes w t base l → Indexes w' t base l
indexes_kept w w' t base l f k =
    kept_agree union_of Sound (node_at w t) (node_at w' t) base l (λ n h. bounds_alone w w' (t + 5 * n) (λ i a. f (t + 5 * n + i) (omega arith) (omega arith))) k

pub heaped_kept : {d slots but : ℕ} {owner : ℕ → ℕ} {P : ℕ → RankedPair} (w w' : List ℕ) → Same w w' (d * heap_from) (d * heap_from + 4 * slots) → Heaped w d slots owner P but
    → Heaped w' d slots owner P but
heaped_kept {d} {slots} w w' f k =
    record {
      whole =
          kept_same min Any (heap.node_at w' (d * heap_from)) slots 1 0 (own (heap.node_at w (d * heap_from)) slots) (own (heap.node_at w' (d * heap_from)) slots) (λ x h. sym (same (slots + x) (omega arith)))
          (kept_agree min Any (heap.node_at w (d * heap_from)) (heap.node_at w' (d * heap_from)) slots (own (heap.node_at w (d * heap_from)) slots) (λ n h. same n h) k.whole);
      leaf = λ s h n. same (slots + s) (omega arith) ∙ k.leaf s h n;
    }
  where
    same : (n : ℕ) → n < 2 * slots → heap.node_at w' (d * heap_from) n ≡ heap.node_at w (d * heap_from) n
    same n h = place_alone w w' (d * heap_from + 2 * n) (λ i a. f (d * heap_from + 2 * n + i) (omega arith) (omega arith))

-- the leaves by their own names
pub indexes_own : (w : List ℕ) (t base : ℕ) (l : ℕ → Bounds) → Indexes w t base l → Indexes w t base (own (node_at w t) base)
indexes_own w t base l k = kept_same union_of Sound (node_at w t) base 1 0 l (own (node_at w t) base) (λ x h. sym (k.leaves x h)) k

-- an end is marked: the index is as it was
pub retires_whole : {w : List ℕ} {d base x : ℕ} → Retires w d base x → IndexWhole (marked w d x) (d * index_from) base (position_at w d x)
retires_whole {w} {d} {base} {x} r =
    let c = changes_set w (d * marks_from + x) 1 (d * marks_from) (d * order_from) (omega arith) (omega (arith, r.within)) in
    record {
      wide = record { some = r.whole.wide.some; inside = omega (arith, r.whole.wide.inside, c.long) };
      within = r.whole.within;
      whole =
          indexes_own (marked w d x) (d * index_from) base (own (node_at w (d * index_from)) base)
          (indexes_kept w (marked w d x) (d * index_from) base (own (node_at w (d * index_from)) base) (same_beyond c (d * index_from) (d * index_from + 10 * base) (omega arith)) r.whole.whole);
    }

-- the pair p comes to the slot s
pub heaped_set : {w w' : List ℕ} {d slots : ℕ} {owner : ℕ → ℕ} {P : ℕ → RankedPair} (s : ℕ) (p : RankedPair) → Heaped w d slots owner P s
    → heap.Sets w w' (d * heap_from) slots s (coded (owner s) p) → Heaped w' d slots owner (changed P s p) slots
heaped_set {w} {w'} {d} {slots} {owner} {P} s p k c =
    record {
      whole =
          kept_same min Any (heap.node_at w' (d * heap_from)) slots 1 0 (changed (own (heap.node_at w (d * heap_from)) slots) s (coded (owner s) p))
          (own (heap.node_at w' (d * heap_from)) slots) (λ x h. sym (c.whole.leaves x h)) c.whole;
      leaf =
          λ x h n. c.whole.leaves x h ∙ ⊎_elim
          (λ (q : x ≡ s).
          same_at (own (heap.node_at w (d * heap_from)) slots) s (coded (owner s) p) x q ∙ ap (λ (y : ℕ). coded (owner y) p) (sym q)
          ∙ ap (λ (y : RankedPair). coded (owner x) y) (sym (same_at P s p x q)))
          (λ (q : x ≡ s → ⊥).
          same_past (own (heap.node_at w (d * heap_from)) slots) s (coded (owner s) p) x q ∙ k.leaf x h q ∙ ap (λ (y : RankedPair). coded (owner x) y) (sym (same_past P s p x q)))
          (same_or x s);
    }

-- ---- the ends

pub ends_same : (w w' : List ℕ) (d : ℕ) → EndsRoom w d → length w' ≡ length w → Same w w' 0 (d * pairs_from) → ends_in w' d ≡ ends_in w d
ends_same w w' d r l f =
    ends_in_kept w w' d
    (ext_get_or 0 (take (d * pairs_from) w') (take (d * pairs_from) w) (length-take-le (d * pairs_from) w' (omega (arith, r.long)) ∙ sym (length-take-le (d * pairs_from) w (omega (arith, r.long)))) (λ i k.
    let j : i < d * pairs_from = omega (arith, k, length-take-le (d * pairs_from) w' (omega (arith, r.long))) in
    get_or-take (d * pairs_from) w' i 0 j ∙ f i (omega arith) j ∙ sym (get_or-take (d * pairs_from) w i 0 j)))

-- ---- an owner's pair
