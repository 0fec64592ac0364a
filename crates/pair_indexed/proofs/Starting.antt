-- The first owners' pairs, one position after another; where all are in the heap and it is joined, the route is ready for its turns.
use Prim.Native.Nat.{ℕ, ◌+◌, ◌*◌, ◌^◌, ◌≤◌, ◌<◌, min}
use mathlib.Core.Path.{◌≡◌, refl, sym, ◌∙◌, ap, subst}
use mathlib.Core.Bool.{Bool}
use mathlib.Core.List.{List}
use mathlib.Core.Logic.{⊎_elim}
use native.Mathlib.Omega.{arith}
use lib.ListN.{replicate}
use Rattle.rules.specs.Selecting.{End}
use Rattle.pair_laws.specs.Ranked.{RankedPair, none as nobody}
use Rattle.pair_laws.specs.Ends.{node_of}
use Rattle.pair_laws.specs.Taking.{used_of}
use Rattle.pair_laws.proofs.Taking.{used_none}
use Rattle.pair_ends.specs.Blocks.{pairs_from, marks_from, order_from, sort_keys_from, groups_from, cursors_from, slots_from, heap_from, index_from, note_from}
use Rattle.pair_ends.specs.Ends.{ends_in}
use Rattle.pair_tree.specs.declared.Place.{Place}
use Rattle.pair_tree.specs.Flat.{changed, own}
use Rattle.pair_tree.specs.Places.{worth}
use Rattle.pair_tree.specs.Words.{Changes}
use Rattle.pair_tree.proofs.Flat.{same_or, kept_same}
use Rattle.pair_tree.proofs.Words.{changes_none, changes_then, changes_wider}
use Rattle.pair_index.specs.Index.{leaf_of, Indexed, Query}
use Rattle.pair_tree.specs.Rows.{Any}
use Rattle.pair_heap.specs.Heap.{node_at, coded, HeapPut, HeapJoined}
use Rattle.pair_heap.proofs.Top.{coded_none}
use Rattle.pair_owners.specs.Tables.{order_at, position_at, group_at, cursor_at, slot_at, owners, Started}
use Rattle.pair_owners.specs.Owners.{Owners}
use Rattle.pair_owners.proofs.Next.{same_at, same_past}
use Rattle.pair_owners.proofs.Grouping.{owners_start}
use Rattle.pair_owners.proofs.Seats.{seated}
use Rattle.pair_owners.proofs.Turns.{ends_kept}
use Rattle.pair_indexed.specs.Route.{marks_in, taken_in, Bound, Ground, Filled, Owning, Offers, RouteReady}
use Rattle.pair_indexed.specs.Start.{Fills}
use Rattle.pair_indexed.proofs.Parts.{same_below, same_beyond, marks_kept, indexes_kept}
use Rattle.pair_indexed.proofs.Third.{no_third}
use Rattle.pair_indexed.proofs.Keeping.{bound_of, ground_kept, moving_kept, there_in, query, answered}

module _ {w : List ℕ} {d height slots limit : ℕ} (f : Fills w d height slots limit) where
  pub fills_ground : Ground (ends_in w d) w d height slots limit (order_at w d) (position_at w d) (group_at w d)
  fills_ground =
      record {
        room = f.begins.asks.room;
        ends = refl;
        sized = f.begins.sized;
        limited = f.begins.asks.limited;
        bounded = f.begins.asks.bounded;
        finite_ends = f.begins.asks.finite_ends;
        noted = f.begins.noted;
        twice = f.begins.asks.twice;
        fixed = record { order_is = λ p h. refl; pos_is = λ e h. refl; group_is_lem = λ e h. refl };
        ordered = f.begins.arranged.sorted.order;
        runs = f.begins.arranged.runs;
        whole = f.begins.arranged.whole;
      }

-- the owners at the first p positions have their pairs
pub record Pairing (w₀ w : List ℕ) (d height slots limit p : ℕ) : Type 0 where
  pub fills : Fills w₀ d height slots limit
  pub P : ℕ → RankedPair
  pub leaf : (s : ℕ) → s < slots → node_at w (d * heap_from) (slots + s) ≡ coded (fills.begins.arranged.own s) (P s)
  pub done : (q : ℕ) → q < p → slot_at w₀ d (order_at w₀ d q) < d
      → Bound (node_of (ends_in w₀ d)) limit nobody (order_at w₀ d q) (P (slot_at w₀ d (order_at w₀ d q)))
  pub holder : (s : ℕ) → s < slots → 0 < (P s).j → s < fills.begins.m
  pub within : p ≤ d
  pub kept : Changes w₀ w (d * heap_from) (d * index_from)

pub pairing_start : (w : List ℕ) (d height slots limit : ℕ) → Fills w d height slots limit → Pairing w w d height slots limit 0
pairing_start w d height slots limit f =
    record {
      fills = f;
      P = λ s. nothing;
      leaf = λ s h. f.empty s h ∙ sym (coded_none (f.begins.arranged.own s) nothing refl);
      done = λ q h. absurd (omega arith);
      holder = λ s h k. absurd (omega arith);
      within = omega arith;
      kept = changes_none w (d * heap_from) (d * index_from);
    }
  where
    nothing : RankedPair
    nothing = record { key = 0; i = 0; j = 0 }

module _ {w₀ w : List ℕ} {d height slots limit p : ℕ} (s : Pairing w₀ w d height slots limit p) where
  abbrev l : List End
  l = ends_in w₀ d

  ground : Ground l w d height slots limit (order_at w₀ d) (position_at w₀ d) (group_at w₀ d)
  ground =
      ground_kept (fills_ground s.fills) w s.kept.long (same_below s.kept 0 (d * pairs_from) (omega arith)) (same_below s.kept (d * order_from) (d * sort_keys_from) (omega arith))
      (same_below s.kept (d * groups_from) (d * cursors_from) (omega arith)) (s.kept.beyond (d * note_from) (omega arith))

  marks : marks_in w d ≡ replicate d 0
  marks = marks_kept w₀ w d s.fills.begins.asks.room s.kept.long (same_below s.kept (d * marks_from) (d * order_from) (omega arith)) ∙ s.fills.begins.unmarked

  free : taken_in w d ≡ nobody
  free = ap used_of marks ∙ used_none d

  indexed : Indexed w (d * index_from) (2 ^ height) l (taken_in w d) (seated (order_at w₀ d) d)
  indexed =
      subst (λ (u : ℕ → Bool). Indexed w (d * index_from) (2 ^ height) l u (seated (order_at w₀ d) d)) (sym free)
      (indexes_kept w₀ w (d * index_from) (2 ^ height) (λ q. leaf_of l nobody (seated (order_at w₀ d) d q)) (same_beyond s.kept (d * index_from) (d * index_from + 10 * 2 ^ height) (omega arith))
      s.fills.indexed)

  module _ (h : p < d) where
    abbrev o : ℕ
    o = order_at w₀ d p

    abbrev x : ℕ
    x = slot_at w₀ d o

    pub pairing_order : order_at w d p ≡ o
    pairing_order = s.kept.below (d * order_from + p) (omega arith)

    o_in : o < d
    o_in = s.fills.begins.arranged.sorted.order.order_in p h

    pub pairing_in : order_at w d p < d
    pairing_in = omega (arith, pairing_order, o_in)

    slot_same : slot_at w d (order_at w d p) ≡ x
    slot_same = ap (slot_at w d) pairing_order ∙ s.kept.below (d * slots_from + o) (omega (arith, o_in))

    -- no owner
    pub pairing_idle : d ≤ slot_at w d (order_at w d p) → Pairing w₀ w d height slots limit (p + 1)
    pairing_idle k =
        record {
          fills = s.fills;
          P = s.P;
          leaf = s.leaf;
          done =
              λ q i j. ⊎_elim
              (λ (c : q ≡ p). absurd (omega (arith, k, slot_same, ap (λ (y : ℕ). slot_at w₀ d (order_at w₀ d y)) c, j)))
              (λ (c : q ≡ p → ⊥). s.done q (below c i) j)
              (same_or q p);
          holder = s.holder;
          within = omega arith;
          kept = s.kept;
        }
      where
        below : {q : ℕ} → (q ≡ p → ⊥) → q < p + 1 → q < p
        below c i = omega arith

    pub pairing_query : Query w d (d * index_from) height limit (order_at w d p)
    pairing_query = query ground indexed (order_at w d p) pairing_in

    -- an owner
    module _ (k : slot_at w d (order_at w d p) < d) where
      held : (x < s.fills.begins.m) × (s.fills.begins.arranged.own x ≡ o)
      held =
          ⊎_elim
          (λ (c : x ≡ d). absurd (omega (arith, c, k, slot_same)))
          (λ (c : (x < s.fills.begins.m) × (s.fills.begins.arranged.own x ≡ o) × (p < group_at w₀ d o + owners)). (c.0, c.1))
          (s.fills.begins.arranged.started.held p h)

      slot_in : x < slots
      slot_in = omega (arith, held.0, s.fills.begins.fits)

      pub pairing_slot : slot_at w d (order_at w d p) < slots
      pairing_slot = omega (arith, slot_same, slot_in)

      pub pairing_next : {w' : List ℕ} {v : Place} → Offers w d height limit (order_at w d p) v
          → HeapPut w w' (d * heap_from) (slots + slot_at w d (order_at w d p)) (worth v) → Pairing w₀ w' d height slots limit (p + 1)
      pairing_next {w'} {v} a r =
          record {
            fills = s.fills;
            P = changed s.P x b;
            leaf =
                λ y i. ⊎_elim
                (λ (c : y ≡ x).
                ap (λ (z : ℕ). node_at w' (d * heap_from) (slots + z)) (c ∙ sym slot_same) ∙ r.stored.same ∙ a.coded_is
                ∙ ap (λ (z : ℕ). coded z b) (pairing_order ∙ sym (ap s.fills.begins.arranged.own c ∙ held.1))
                ∙ ap (λ (z : RankedPair). coded (s.fills.begins.arranged.own y) z) (sym (same_at s.P x b y c)))
                (λ (c : y ≡ x → ⊥).
                r.stored.other (slots + y) (λ z. c (other z ∙ slot_same)) ∙ s.leaf y i
                ∙ ap (λ (z : RankedPair). coded (s.fills.begins.arranged.own y) z) (sym (same_past s.P x b y c)))
                (same_or y x);
            done =
                λ q i j. ⊎_elim
                (λ (c : q ≡ p).
                subst (λ (z : ℕ). Bound (node_of l) limit nobody (order_at w₀ d z) (changed s.P x b (slot_at w₀ d (order_at w₀ d z)))) (sym c)
                (subst (λ (z : RankedPair). Bound (node_of l) limit nobody o z) (sym (same_at s.P x b x refl)) bound))
                (λ (c : q ≡ p → ⊥).
                subst (λ (z : RankedPair). Bound (node_of l) limit nobody (order_at w₀ d q) z) (sym (same_past s.P x b (slot_at w₀ d (order_at w₀ d q)) (apart q (below c i) j)))
                (s.done q (below c i) j))
                (same_or q p);
            holder =
                λ y i j. ⊎_elim
                (λ (c : y ≡ x). subst (λ (z : ℕ). z < s.fills.begins.m) (sym c) held.0)
                (λ (c : y ≡ x → ⊥). s.holder y i (subst (λ (z : RankedPair). 0 < z.j) (same_past s.P x b y c) j))
                (same_or y x);
            within = omega arith;
            kept =
                changes_then s.kept
                (changes_wider (d * heap_from) (d * index_from) (omega arith) (omega (arith, pairing_slot, s.fills.begins.sized.narrow)) r.kept);
          }
        where
          b : RankedPair
          b = a.best

          bound : Bound (node_of l) limit nobody o a.best
          bound =
              subst (λ (z : ℕ). Bound (node_of l) limit nobody z a.best) pairing_order
              (subst (λ (u : ℕ → Bool). Bound (node_of l) limit u (order_at w d p) a.best) free
              (bound_of (answered ground indexed (order_at w d p) a.best a.answers (ap (λ (u : ℕ → Bool). u (order_at w d p)) free ∙ unfold nobody in refl))))

          below : {q : ℕ} → (q ≡ p → ⊥) → q < p + 1 → q < p
          below c i = omega arith

          other : {y z : ℕ} → slots + y ≡ slots + z → y ≡ z
          other e = omega arith

          -- another position has another slot
          apart : (q : ℕ) → q < p → slot_at w₀ d (order_at w₀ d q) < d → slot_at w₀ d (order_at w₀ d q) ≡ x → ⊥
          apart q i j e =
              ⊎_elim
              (λ (c : slot_at w₀ d (order_at w₀ d q) ≡ d). omega (arith, c, j))
              (λ (c : (slot_at w₀ d (order_at w₀ d q) < s.fills.begins.m) × (s.fills.begins.arranged.own (slot_at w₀ d (order_at w₀ d q)) ≡ order_at w₀ d q) × (q < group_at w₀ d (order_at w₀ d q) + owners)).
              let z = s.fills.begins.arranged.sorted.order in
              let same : order_at w₀ d q ≡ o = sym c.1 ∙ ap s.fills.begins.arranged.own e ∙ held.1 in
              omega (arith, i, z.back q (omega arith), z.back p h, ap (position_at w₀ d) same))
              (s.fills.begins.arranged.started.held q (omega arith))

  -- all positions
  module _ (h : d ≤ p) where
    module _ {w' : List ℕ} (r : HeapJoined w w' (d * heap_from) slots) where
      pub pairing_changes : Changes w₀ w' (d * heap_from) (d * index_from)
      pairing_changes =
          changes_then s.kept (changes_wider (d * heap_from) (d * index_from) (omega arith) (omega (arith, s.fills.begins.sized.narrow)) r.kept)

      abbrev slot : ℕ → ℕ
      slot = slot_at w₀ d

      abbrev owner : ℕ → ℕ
      owner = s.fills.begins.arranged.own

      begun : Started l (order_at w₀ d) (group_at w₀ d) (cursor_at w₀ d) slot owner d d s.fills.begins.m
      begun = s.fills.begins.arranged.started

      marks' : marks_in w' d ≡ replicate d 0
      marks' =
          marks_kept w₀ w' d s.fills.begins.asks.room pairing_changes.long (same_below pairing_changes (d * marks_from) (d * order_from) (omega arith))
          ∙ s.fills.begins.unmarked

      free' : taken_in w' d ≡ nobody
      free' = ap used_of marks' ∙ used_none d

      filled : Filled (node_of l) d slots limit nobody nobody slot owner s.P slots
      filled =
          record {
            held =
                λ e a b c.
                let z = s.fills.begins.arranged.sorted.order in
                let q = z.pos_in e a in (
                  ⊎_elim
                      (λ (y : slot (order_at w₀ d (position_at w₀ d e)) ≡ d). absurd (omega (arith, y, b, ap slot (z.seat e a))))
                      (λ (y : (slot (order_at w₀ d (position_at w₀ d e)) < s.fills.begins.m)
                      × (owner (slot (order_at w₀ d (position_at w₀ d e))) ≡ order_at w₀ d (position_at w₀ d e))
                      × (position_at w₀ d e < group_at w₀ d (order_at w₀ d (position_at w₀ d e)) + owners)).
                      omega (arith, y.0, s.fills.begins.fits, ap slot (z.seat e a)))
                      (begun.held (position_at w₀ d e) q),
                  λ _. subst (λ (y : ℕ). Bound (node_of l) limit nobody y (s.P (slot y))) (z.seat e a)
                      (s.done (position_at w₀ d e) (omega arith) (subst (λ (y : ℕ). slot y < d) (sym (z.seat e a)) b)),
                );
            holder =
                λ y a _ k.
                let m = s.holder y a k in
                let t = begun.holder y m in
                let u = t.1 in (
                  subst (λ (v : ℕ). v < d) (sym u.2) (s.fills.begins.arranged.sorted.order.order_in u.0 u.1),
                  t.0,
                  unfold nobody in refl,
                  omega (arith, m, begun.few),
                );
          }

      owning : Owning l w' d height slots limit (taken_in w' d) slots
      owning =
          record {
            order = order_at w₀ d;
            pos = position_at w₀ d;
            group = group_at w₀ d;
            cursor = cursor_at w₀ d;
            slot = slot;
            owner = owner;
            P = s.P;
            ground =
                ground_kept (fills_ground s.fills) w' pairing_changes.long (same_below pairing_changes 0 (d * pairs_from) (omega arith))
                (same_below pairing_changes (d * order_from) (d * sort_keys_from) (omega arith)) (same_below pairing_changes (d * groups_from) (d * cursors_from) (omega arith)) (pairing_changes.beyond (d * note_from) (omega arith));
            moving = moving_kept {w = w₀} (record { cursor_is = λ g k. refl; slot_is = λ e k. refl }) (same_below pairing_changes (d * cursors_from) (d * heap_from) (omega arith));
            owners =
                subst (λ (u : ℕ → Bool). Owners l d (order_at w₀ d) (position_at w₀ d) (group_at w₀ d) (cursor_at w₀ d) slot owner u u) (sym free')
                (owners_start s.fills.begins.arranged.sorted.order s.fills.begins.arranged.runs begun (there_in (fills_ground s.fills)));
            filled = subst (λ (u : ℕ → Bool). Filled (node_of l) d slots limit u u slot owner s.P slots) (sym free') filled;
            heaped =
                record {
                  whole =
                      kept_same min Any (node_at w' (d * heap_from)) slots 1 0 (own (node_at w (d * heap_from)) slots) (own (node_at w' (d * heap_from)) slots)
                      (λ y k. sym (r.whole.leaves y k)) r.whole;
                  leaf = λ y k _. r.whole.leaves y k ∙ s.leaf y k;
                };
            indexed =
                subst (λ (u : ℕ → Bool). Indexed w' (d * index_from) (2 ^ height) l u (seated (order_at w₀ d) d)) (sym free')
                (indexes_kept w₀ w' (d * index_from) (2 ^ height) (λ q. leaf_of l nobody (seated (order_at w₀ d) d q))
                (same_beyond pairing_changes (d * index_from) (d * index_from + 10 * 2 ^ height) (omega arith)) s.fills.indexed);
          }

      pub pairing_stop : RouteReady w' d height slots limit
      pairing_stop =
          record {
            owning =
                subst (λ (y : List End). Owning y w' d height slots limit (taken_in w' d) slots)
                (sym (ends_kept pairing_changes (omega arith) s.fills.begins.asks.room)) owning;
            unmarked = marks';
            few = no_third owning;
          }
