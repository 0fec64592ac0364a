-- The leaves of the index and of the heap, written one after another: of an end with a direction its point, and for each slot no pair.
use Prim.Native.Nat.{ℕ, ◌+◌, ◌*◌, ◌≤◌, ◌<◌}
use mathlib.Core.Path.{◌≡◌, refl, sym, ◌∙◌, ap, subst}
use mathlib.Core.Bool.{true, false, cond}
use mathlib.Core.List.{List}
use mathlib.Core.Logic.{⊎_elim}
use native.Mathlib.Omega.{arith}
use lib.Dec.{ltb}
use lib.ListN.{length}
use Rattle.rules.specs.Answers.{Direction}
use Rattle.rules.specs.Answers.{Absent, Toward}
use Rattle.rules.specs.Selecting.{End}
use Rattle.pair_bounds.specs.declared.Bounds.{Bounds}
use Rattle.pair_bounds.specs.Box.{empty_of, Sound}
use Rattle.pair_bounds.proofs.Union.{empty_sound, point_sound}
use Rattle.pair_laws.specs.Ends.{end_at, there}
use Rattle.pair_laws.specs.Ranked.{none as nobody}
use Rattle.pair_laws.proofs.Order.{two, tf}
use Rattle.pair_ends.specs.Blocks.{order_from, heap_from, index_from, note_from}
use Rattle.rules.specs.Refusals.{end_room}
use Rattle.pair_ends.specs.Ends.{EndsRoom, direction_at, ends_in}
use Rattle.pair_tree.specs.Places.{none}
use Rattle.pair_tree.specs.Words.{Changes}
use Rattle.pair_tree.proofs.Flat.{same_or}
use Rattle.pair_tree.proofs.Words.{changes_then, changes_wider}
use Rattle.pair_index.specs.Nodes.{node_at, IndexPut, Leaves}
use Rattle.pair_index.specs.Index.{box_of, leaf_of, Finite}
use Rattle.pair_index.proofs.Leaves.{direction_is, there_below}
use Rattle.pair_heap.specs.Heap as heap
use Rattle.pair_owners.specs.Tables.{order_at}
use Rattle.pair_owners.proofs.Seats.{seated, seated_in, seated_out}
use Rattle.pair_owners.proofs.Turns.{ends_kept}
use Rattle.pair_indexed.specs.Start.{Plants, Clears}

-- ---- one leaf

absent_box : (a : Direction) (e : ℕ) → there a ≡ false → box_of a e ≡ empty_of
unfolding there
absent_box Absent e h = refl
absent_box (Toward x y) e h = absurd (tf refl h)

leaf_box : (l : List End) (e : ℕ) → leaf_of l nobody e ≡ box_of (end_at l e).direction e
unfolding nobody
leaf_box l e = refl

module _ {w : List ℕ} {d : ℕ} (room : EndsRoom w d) (order : ℕ → ℕ) (p : ℕ) where
  pub leaf_out : d ≤ p → empty_of ≡ leaf_of (ends_in w d) nobody (seated order d p)
  leaf_out h =
      sym (leaf_box (ends_in w d) (seated order d p)
      ∙ absent_box (end_at (ends_in w d) (seated order d p)).direction (seated order d p)
      (⊎_elim
      (λ (y : there (end_at (ends_in w d) (seated order d p)).direction ≡ true). absurd (omega (arith, there_below room (seated order d p) y, seated_out order d p h)))
      (λ (y : there (end_at (ends_in w d) (seated order d p)).direction ≡ false). y)
      (two (there (end_at (ends_in w d) (seated order d p)).direction))))

  pub leaf_in : p < d → order p < d → (a : Direction) → a ≡ direction_at w d (order p) → box_of a (order p) ≡ leaf_of (ends_in w d) nobody (seated order d p)
  leaf_in h k a e =
      ap (λ (b : Direction). box_of b (order p)) (e ∙ sym (direction_is room (order p) k))
      ∙ sym (ap (leaf_of (ends_in w d) nobody) (seated_in order d p h) ∙ leaf_box (ends_in w d) (order p))

leaf_sound : (l : List End) → Finite l → (e : ℕ) → Sound (leaf_of l nobody e)
leaf_sound l f e = subst (λ (b : Bounds). Sound b) (sym (leaf_box l e)) (go (end_at l e).direction refl)
  where
    go : (a : Direction) → (end_at l e).direction ≡ a → Sound (box_of a e)
    go Absent q = empty_sound
    go (Toward x y) q = let t = f e x y q in point_sound x y e t.0 t.1

-- ---- the leaves of the index

pub record Planting (w₀ w : List ℕ) (d base p : ℕ) : Type 0 where
  pub done : (q : ℕ) → q < p → node_at w (d * index_from) (base + q) ≡ leaf_of (ends_in w₀ d) nobody (seated (order_at w₀ d) d q)
  pub kept : Changes w₀ w (d * index_from) (d * note_from)

module _ {w₀ w : List ℕ} {d base p : ℕ} (z : Plants w₀ d base) (s : Planting w₀ w d base p) where
  pub planting_room : (d * index_from + 10 * base ≤ d * note_from) × (d * end_room ≤ length w)
  planting_room = (omega (arith, z.most), omega (arith, z.sorted.room.long, s.kept.long))

  module _ (h : p < base) {b : Bounds} (e : b ≡ leaf_of (ends_in w d) nobody (seated (order_at w d) d p)) where
    here : b ≡ leaf_of (ends_in w₀ d) nobody (seated (order_at w₀ d) d p)
    here =
        e
        ∙ ap (λ (l : List End). leaf_of l nobody (seated (order_at w d) d p)) (ends_kept s.kept (omega arith) z.sorted.room)
        ∙ ap (λ (k : ℕ). leaf_of (ends_in w₀ d) nobody (cond (ltb p d) k d)) (s.kept.below (d * order_from + p) (omega (arith, z.most)))

    pub planting_sound : Sound b
    planting_sound = subst (λ (y : Bounds). Sound y) (sym here) (leaf_sound (ends_in w₀ d) z.finite_ends (seated (order_at w₀ d) d p))

    pub planting_next : {w' : List ℕ} → IndexPut w w' (d * index_from) (base + p) b → Planting w₀ w' d base (p + 1)
    planting_next {w'} k =
        record {
          done =
              λ q i. ⊎_elim
              (λ (c : q ≡ p). ap (λ (y : ℕ). node_at w' (d * index_from) (base + y)) c ∙ k.stored.same ∙ here ∙ ap (λ (y : ℕ). leaf_of (ends_in w₀ d) nobody (seated (order_at w₀ d) d y)) (sym c))
              (λ (c : q ≡ p → ⊥). k.stored.other (base + q) (λ y. c (other y)) ∙ s.done q (below c i))
              (same_or q p);
          kept = changes_then s.kept (changes_wider (d * index_from) (d * note_from) (omega arith) (omega (arith, z.most)) k.kept);
        }
      where
        other : {q : ℕ} → base + q ≡ base + p → q ≡ p
        other y = omega arith

        below : {q : ℕ} → (q ≡ p → ⊥) → q < p + 1 → q < p
        below c i = omega arith

  -- all of them
  module _ (h : base ≤ p) where
    pub planting_leaves : Leaves w (d * index_from) base
    planting_leaves =
        record {
          wide = record { some = z.some; inside = omega (arith, planting_room.0, planting_room.1) };
          sound = λ x i. subst (λ (y : Bounds). Sound y) (sym (s.done x (omega arith))) (leaf_sound (ends_in w₀ d) z.finite_ends (seated (order_at w₀ d) d x));
        }

-- ---- the leaves of the heap

pub record Clearing (w₀ w : List ℕ) (d slots s : ℕ) : Type 0 where
  pub done : (q : ℕ) → q < s → heap.node_at w (d * heap_from) (slots + q) ≡ none
  pub kept : Changes w₀ w (d * heap_from) (d * index_from)

module _ {w₀ w : List ℕ} {d slots s : ℕ} (z : Clears w₀ d slots) (k : Clearing w₀ w d slots s) where
  pub clearing_next : s < slots → {w' : List ℕ} {v : ℕ} → v ≡ none → heap.HeapPut w w' (d * heap_from) (slots + s) v → Clearing w₀ w' d slots (s + 1)
  clearing_next h {w'} e r =
      record {
        done =
            λ q i. ⊎_elim
            (λ (c : q ≡ s). ap (λ (y : ℕ). heap.node_at w' (d * heap_from) (slots + y)) c ∙ r.stored.same ∙ e)
            (λ (c : q ≡ s → ⊥). r.stored.other (slots + q) (λ y. c (other y)) ∙ k.done q (below c i))
            (same_or q s);
        kept = changes_then k.kept (changes_wider (d * heap_from) (d * index_from) (omega arith) (omega (arith, z.narrow)) r.kept);
      }
    where
      other : {q : ℕ} → slots + q ≡ slots + s → q ≡ s
      other y = omega arith

      below : {q : ℕ} → (q ≡ s → ⊥) → q < s + 1 → q < s
      below c i = omega arith
