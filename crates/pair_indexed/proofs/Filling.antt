-- What the route keeps where a slot gets its pair, and where a taken end hands its slot on. In between the pair of that slot is still to come, and all else is said
-- as before; so it is the same whether the slot is its owner's still, or another end's, or nobody's.
use Prim.Native.Nat.{ℕ, ◌+◌, ◌*◌, ◌^◌, ◌<◌}
use mathlib.Core.Path.{◌≡◌, refl, sym, ◌∙◌, ap, subst}
use mathlib.Core.Bool.{Bool, false}
use mathlib.Core.List.{List}
use mathlib.Core.Logic.{⊎_elim}
use native.Mathlib.Omega.{arith}
use Rattle.rules.specs.Selecting.{End}
use Rattle.pair_laws.specs.Ranked.{RankedPair}
use Rattle.pair_laws.specs.Ends.{node_of}
use Rattle.pair_laws.specs.Taking.{used_of}
use Rattle.pair_tree.specs.Flat.{changed}
use Rattle.pair_tree.specs.Places.{none}
use Rattle.pair_tree.specs.Words.{Changes}
use Rattle.pair_tree.proofs.Flat.{same_or}
use Rattle.pair_index.specs.Index.{leaf_of, Indexed}
use Rattle.pair_heap.specs.Heap.{coded, Sets}
use Rattle.pair_heap.proofs.Top.{coded_none}
use Rattle.pair_owners.specs.Owners.{Owners}
use Rattle.pair_owners.proofs.Next.{same_at, same_past}
use Rattle.pair_owners.proofs.Seats.{seated}
use Rattle.pair_ends.specs.Blocks.{pairs_from, marks_from, order_from, sort_keys_from, groups_from, cursors_from, heap_from, index_from, note_from}
use Rattle.pair_indexed.specs.Route.{marks_in, taken_in, Bound, Filled, Owning, Refreshed}
use Rattle.pair_indexed.proofs.Parts.{same_below, same_beyond, marks_kept, indexes_kept, heaped_set}
use Rattle.pair_indexed.proofs.Keeping.{bound_of, ground_kept, moving_kept, heap_in, slot_here, answered}

-- ---- a slot gets its pair

module _ {l : List End} {w : List ℕ} {d height slots limit : ℕ} {past : ℕ → Bool} {but : ℕ} (s : Owning l w d height slots limit past but) where
  -- the pair p, which is at or before all that an owner of the slot has
  module _ {w' : List ℕ} (p : RankedPair) (c : Sets w w' (d * heap_from) slots but (coded (s.owner but) p))
      (f : (e : ℕ) → e < d → s.slot e < d → past e ≡ false → s.slot e ≡ but → Bound (node_of l) limit (taken_in w d) e p)
      (g : 0 < p.j → (s.owner but < d) × (s.slot (s.owner but) ≡ but) × (past (s.owner but) ≡ false) × (but < d)) where
    P' : ℕ → RankedPair
    P' = changed s.P but p

    marks_same : marks_in w' d ≡ marks_in w d
    marks_same = marks_kept w w' d s.ground.room c.kept.long (same_below c.kept (d * marks_from) (d * order_from) (omega arith))

    filled : Filled (node_of l) d slots limit (taken_in w d) past s.slot s.owner P' slots
    unfolding P'
    filled =
        record {
          held =
              λ e a b k. let t = s.filled.held e a b k in (
                t.0,
                λ n. ⊎_elim
                    (λ (q : s.slot e ≡ but). subst (λ (y : RankedPair). Bound (node_of l) limit (taken_in w d) e y) (sym (same_at s.P but p (s.slot e) q)) (f e a b k q))
                    (λ (q : s.slot e ≡ but → ⊥). subst (λ (y : RankedPair). Bound (node_of l) limit (taken_in w d) e y) (sym (same_past s.P but p (s.slot e) q)) (t.1 q))
                    (same_or (s.slot e) but),
              );
          holder =
              λ x a b k. ⊎_elim
              (λ (q : x ≡ but).
              let t = g (subst (λ (y : RankedPair). 0 < y.j) (same_at s.P but p x q) k) in (
                subst (λ (y : ℕ). s.owner y < d) (sym q) t.0,
                ap (λ (y : ℕ). s.slot (s.owner y)) q ∙ t.1 ∙ sym q,
                ap (λ (y : ℕ). past (s.owner y)) q ∙ t.2,
                subst (λ (y : ℕ). y < d) (sym q) t.3,
              ))
              (λ (q : x ≡ but → ⊥). s.filled.holder x a q (subst (λ (y : RankedPair). 0 < y.j) (same_past s.P but p x q) k))
              (same_or x but);
        }

    pub owning_filled : Owning l w' d height slots limit past slots
    unfolding P'
    owning_filled =
        record {
          order = s.order;
          pos = s.pos;
          group = s.group;
          cursor = s.cursor;
          slot = s.slot;
          owner = s.owner;
          P = P';
          ground =
              ground_kept s.ground w' c.kept.long (same_below c.kept 0 (d * pairs_from) (omega arith)) (same_below c.kept (d * order_from) (d * sort_keys_from) (omega arith))
              (same_below c.kept (d * groups_from) (d * cursors_from) (omega arith)) (c.kept.beyond (d * note_from) (omega (arith, heap_in s)));
          moving = moving_kept s.moving (same_below c.kept (d * cursors_from) (d * heap_from) (omega arith));
          owners = subst (λ (m : List ℕ). Owners l d s.order s.pos s.group s.cursor s.slot s.owner (used_of m) past) (sym marks_same) s.owners;
          filled = subst (λ (m : List ℕ). Filled (node_of l) d slots limit (used_of m) past s.slot s.owner P' slots) (sym marks_same) filled;
          heaped = heaped_set but p s.heaped c;
          indexed =
              subst (λ (m : List ℕ). Indexed w' (d * index_from) (2 ^ height) l (used_of m) (seated s.order d)) (sym marks_same)
              (indexes_kept w w' (d * index_from) (2 ^ height) (λ y. leaf_of l (taken_in w d) (seated s.order d y))
              (same_beyond c.kept (d * index_from) (d * index_from + 10 * 2 ^ height) (heap_in s)) s.indexed);
        }

  pub sets_changes : {w' : List ℕ} {x v : ℕ} → Sets w w' (d * heap_from) slots x v → Changes w w' (d * heap_from) (d * index_from)
  sets_changes c = record { long = c.kept.long; below = c.kept.below; beyond = λ k y. c.kept.beyond k (omega (arith, heap_in s)) }

  -- no pair, where nobody owns the slot
  pub owning_cleared : {w' : List ℕ} {v : ℕ} → v ≡ none → Sets w w' (d * heap_from) slots but v
      → ((e : ℕ) → e < d → s.slot e < d → past e ≡ false → s.slot e ≡ but → ⊥) → Owning l w' d height slots limit past slots
  owning_cleared {w'} e c n =
      owning_filled nothing (subst (λ (y : ℕ). Sets w w' (d * heap_from) slots but y) (e ∙ sym (coded_none (s.owner but) nothing refl)) c)
      (λ x a b k q. absurd (n x a b k q)) (λ h. absurd (omega arith))
    where
      nothing : RankedPair
      nothing = record { key = 0; i = 0; j = 0 }

  -- its owner o's first pair
  pub owning_refreshed : (o : ℕ) → o < d → but < d → s.slot o ≡ but → past o ≡ false → taken_in w d o ≡ false → {w' : List ℕ} → Refreshed w w' d slots height limit o
      → Owning l w' d height slots limit past slots
  owning_refreshed o h i q k f {w'} r =
      owning_filled r.best
      (subst (λ (y : ℕ). Sets w w' (d * heap_from) slots but (coded y r.best)) (sym owner_is)
      (subst (λ (y : ℕ). Sets w w' (d * heap_from) slots y (coded o r.best)) (slot_here s o h ∙ q) r.sets))
      (λ e a b c y. subst (λ (x : ℕ). Bound (node_of l) limit (taken_in w d) x r.best) (sym (one e a b c y)) (bound_of (answered s.ground s.indexed o r.best r.answers f)))
      (λ _. (subst (λ (y : ℕ). y < d) (sym owner_is) h, ap s.slot owner_is ∙ q, ap past owner_is ∙ k, i))
    where
      in_slot : s.slot o < d
      in_slot = subst (λ (y : ℕ). y < d) (sym q) i

      owner_is : s.owner but ≡ o
      owner_is = ap s.owner (sym q) ∙ s.owners.holds o h in_slot k

      one : (e : ℕ) → e < d → s.slot e < d → past e ≡ false → s.slot e ≡ but → e ≡ o
      one e a b c y = sym (s.owners.holds e a b c) ∙ ap s.owner y ∙ owner_is

-- a slot may wait for its pair
pub owning_but : {l : List End} {w : List ℕ} {d height slots limit : ℕ} {past : ℕ → Bool} → Owning l w d height slots limit past slots → (x : ℕ)
    → Owning l w d height slots limit past x
owning_but s x =
    record {
      order = s.order;
      pos = s.pos;
      group = s.group;
      cursor = s.cursor;
      slot = s.slot;
      owner = s.owner;
      P = s.P;
      ground = s.ground;
      moving = s.moving;
      owners = s.owners;
      filled = record { held = λ e a b c. (let t = s.filled.held e a b c in (t.0, λ _. t.1 (λ y. omega (arith, t.0, y)))); holder = λ y a _. s.filled.holder y a (λ z. omega arith) };
      heaped = record { whole = s.heaped.whole; leaf = λ y a _. s.heaped.leaf y a (λ z. omega arith) };
      indexed = s.indexed;
    }

-- an owner's pair anew
pub owning_again : {l : List End} {w : List ℕ} {d height slots limit : ℕ} {past : ℕ → Bool} (s : Owning l w d height slots limit past slots) (o : ℕ) → o < d → s.slot o < d
    → past o ≡ false → taken_in w d o ≡ false → {w' : List ℕ} → Refreshed w w' d slots height limit o → Owning l w' d height slots limit past slots
unfolding owning_but
owning_again s o h i k f r = owning_refreshed (owning_but s (s.slot o)) o h i refl k f r
