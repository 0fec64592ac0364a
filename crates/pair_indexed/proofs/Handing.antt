-- What the route keeps where a taken end hands its slot on: to the free end of its direction that is due, or, where there is none, to nobody. The owners are
-- enough still, and only the pair of that slot is to come.
use Prim.Native.Nat.{ℕ, ◌+◌, ◌*◌, ◌^◌, ◌≤◌, ◌<◌}
use mathlib.Core.Path.{◌≡◌, refl, sym, ◌∙◌, ap, subst}
use mathlib.Core.Bool.{Bool, true, false}
use mathlib.Core.List.{List}
use mathlib.Core.Logic.{◌⊎◌, inl, inr, ⊎_elim}
use native.Mathlib.Omega.{arith}
use lib.ListN.{length, get_or, set, length-set}
use lib.Seq.{get_or-set_same, get_or-set_other}
use Rattle.rules.specs.Selecting.{End}
use Rattle.pair_laws.specs.Ends.{node_of}
use Rattle.pair_laws.specs.Taking.{used_of}
use Rattle.pair_laws.proofs.Order.{two, tf}
use Rattle.pair_tree.specs.Flat.{changed}
use Rattle.pair_tree.specs.Places.{none}
use Rattle.pair_tree.specs.Words.{Changes}
use Rattle.pair_tree.proofs.Flat.{same_or, below_or}
use Rattle.pair_tree.proofs.Words.{changes_none, changes_set, changes_then, changes_wider}
use Rattle.pair_index.specs.Index.{leaf_of, Indexed}
use Rattle.pair_heap.specs.Heap.{coded, Sets}
use Rattle.pair_owners.specs.Tables.{mark_at, order_at, group_at, cursor_at, slot_at, Due}
use Rattle.pair_owners.specs.Owners.{Owners, without}
use Rattle.pair_owners.proofs.Next.{same_at, same_past, without_not, is_without, no_slot, no_next, next}
use Rattle.pair_owners.proofs.Seats.{seated}
use Rattle.pair_ends.specs.Blocks.{pairs_from, marks_from, order_from, sort_keys_from, groups_from, cursors_from, slots_from, heap_from, index_from, note_from}
use Rattle.rules.specs.Refusals.{end_room}
use Rattle.pair_indexed.specs.Route.{marks_in, taken_in, Moving, Bound, Filled, Owning, Stale, Refreshed, Replaces, Replaced}
use Rattle.pair_indexed.proofs.Parts.{same_below, same_beyond, marks_kept, is_taken, is_free, indexes_kept, heaped_kept}
use Rattle.pair_indexed.proofs.Keeping.{ground_kept, there_in, heap_in, slot_here, slots_apart, query, heap_whole}
use Rattle.pair_indexed.proofs.Filling.{owning_cleared, owning_refreshed, sets_changes}

module _ {l : List End} {w : List ℕ} {d height slots limit : ℕ} {past : ℕ → Bool} (s : Owning l w d height slots limit past slots) (x : ℕ) (x-in : x < d)
    (x_used : taken_in w d x ≡ true) (x-holds : past x ≡ false) where
  abbrev past' : ℕ → Bool
  past' = without past x

  group_is_lem : group_at w d x ≡ s.group x
  group_is_lem = s.ground.fixed.group_is_lem x x-in

  pub group_in : group_at w d x < d
  group_in =
      omega (arith, group_is_lem, ap s.group (s.ground.ordered.seat x x-in), s.ground.runs.below (s.pos x) (s.ground.ordered.pos_in x x-in), s.ground.ordered.pos_in x x-in)

  -- ---- no slot to hand on
  pub handed_idle : d ≤ slot_at w d x → Owning l w d height slots limit past' slots
  handed_idle n =
      record {
        order = s.order;
        pos = s.pos;
        group = s.group;
        cursor = s.cursor;
        slot = s.slot;
        owner = s.owner;
        P = s.P;
        ground = s.ground;
        moving = s.moving;
        owners = no_slot s.owners x x_used (λ h. omega (arith, n, slot_here s x x-in));
        filled =
            record {
              held = λ e a b c. s.filled.held e a b (without_not past x e c).1;
              holder =
                  λ y a b k. let t = s.filled.holder y a b k in (
                    t.0,
                    t.1,
                    is_without past x (s.owner y) (λ q. omega (arith, n, slot_here s x x-in, sym t.1 ∙ ap s.slot q, t.3)) t.2,
                    t.3,
                  );
            };
        heaped = s.heaped;
        indexed = s.indexed;
      }

  -- ---- a slot to hand on, and who is due
  module _ (x-slot : slot_at w d x < d) {c : ℕ} (u : Due w d (group_at w d x) (cursor_at w d (group_at w d x)) c) where
    x_owner : s.slot x < d
    x_owner = omega (arith, slot_here s x x-in)

    pub slot_within : s.slot x < slots
    slot_within = (s.filled.held x x-in x_owner x-holds).0

    cursor_is : cursor_at w d (group_at w d x) ≡ s.cursor (s.group x)
    cursor_is = s.moving.cursor_is (group_at w d x) group_in ∙ ap s.cursor group_is_lem

    reached : s.cursor (s.group x) ≤ u.stop
    reached = omega (arith, u.reached, cursor_is)

    passed : (q : ℕ) → s.cursor (s.group x) ≤ q → q < u.stop → q < d → taken_in w d (s.order q) ≡ true
    passed q a b h =
        is_taken w d (s.order q) (s.ground.ordered.order_in q h)
        (λ e. u.passed q (omega (arith, cursor_is)) b (ap (mark_at w d) (s.ground.fixed.order_is q h) ∙ e))

    -- another owner has another slot
    apart : (e : ℕ) → e < d → s.slot e < d → past' e ≡ false → s.slot e ≡ s.slot x → ⊥
    apart e a b c q = let t = without_not past x e c in t.0 (slots_apart s e x a x-in b x_owner t.1 x-holds q)

    held : (e : ℕ) → e < d → s.slot e < d → past' e ≡ false → (s.slot e < slots) × ((s.slot e ≡ s.slot x → ⊥) → Bound (node_of l) limit (taken_in w d) e (s.P (s.slot e)))
    held e a b c = let t = s.filled.held e a b (without_not past x e c).1 in (t.0, λ _. t.1 (λ y. omega (arith, t.0, y)))

    holder : (y : ℕ) → y < slots → (y ≡ s.slot x → ⊥) → 0 < (s.P y).j → (s.owner y < d) × (s.slot (s.owner y) ≡ y) × (past' (s.owner y) ≡ false) × (y < d)
    holder y a n k =
        let t = s.filled.holder y a (λ z. omega arith) k in
        (t.0, t.1, is_without past x (s.owner y) (λ q. n (sym t.1 ∙ ap s.slot q)) t.2, t.3)

    -- nobody
    module _ (e : c ≡ d) where
      stops : (d ≤ u.stop) ⊎ (s.group (s.order u.stop) ≡ s.group x → ⊥)
      stops =
          ⊎_elim (λ (a : d ≤ u.stop). inl a)
          (λ (a : group_at w d (order_at w d u.stop) ≡ group_at w d x → ⊥). ⊎_elim
          (λ (h : u.stop < d).
          inr (λ q. a (ap (group_at w d) (s.ground.fixed.order_is u.stop h) ∙ s.ground.fixed.group_is_lem (s.order u.stop) (s.ground.ordered.order_in u.stop h) ∙ q ∙ sym group_is_lem)))
          (λ (h : d ≤ u.stop). inl h)
          (below_or u.stop d))
          (u.none e)

      handed_none : Owning l w d height slots limit past' (s.slot x)
      handed_none =
          record {
            order = s.order;
            pos = s.pos;
            group = s.group;
            cursor = s.cursor;
            slot = s.slot;
            owner = s.owner;
            P = s.P;
            ground = s.ground;
            moving = s.moving;
            owners = no_next s.ground.ordered s.ground.runs s.owners (there_in s.ground) x x-in x_owner x_used x-holds u.stop reached passed stops;
            filled = record { held = held; holder = holder };
            heaped = record { whole = s.heaped.whole; leaf = λ y a _. s.heaped.leaf y a (λ z. omega arith) };
            indexed = s.indexed;
          }

      pub replaced_none : {w' : List ℕ} {v : ℕ} → v ≡ none → Sets w w' (d * heap_from) slots (slot_at w d x) v → Owning l w' d height slots limit past' slots
      unfolding handed_none
      replaced_none {w'} {v} q k =
          owning_cleared handed_none q (subst (λ (y : ℕ). Sets w w' (d * heap_from) slots y v) (slot_here s x x-in) k) apart

    -- the end at c
    module _ (e : c ≡ d → ⊥) where
      abbrev stop : ℕ
      stop = u.stop

      abbrev o : ℕ
      o = s.order stop

      abbrev w₂ : List ℕ
      w₂ = set (set w (d * cursors_from + group_at w d x) (c + 1)) (d * slots_from + order_at w d c) (slot_at w d x)

      c_is : c ≡ stop
      c_is = (u.some e).0

      stop_in : stop < d
      stop_in = (u.some e).1

      o_is : order_at w d c ≡ o
      o_is = ap (order_at w d) c_is ∙ s.ground.fixed.order_is stop stop_in

      o_in : o < d
      o_in = s.ground.ordered.order_in stop stop_in

      o_group : s.group o ≡ s.group x
      o_group = sym (ap (group_at w d) (s.ground.fixed.order_is stop stop_in) ∙ s.ground.fixed.group_is_lem o o_in) ∙ (u.some e).2 ∙ group_is_lem

      o_free : taken_in w d o ≡ false
      o_free = is_free w d o o_in (ap (mark_at w d) (sym (s.ground.fixed.order_is stop stop_in)) ∙ (u.some e).3)

      pub two_words : Changes w w₂ (d * cursors_from) (d * heap_from)
      two_words =
          changes_then (changes_set w (d * cursors_from + group_at w d x) (c + 1) (d * cursors_from) (d * heap_from) (omega arith) (omega (arith, group_in)))
          (changes_set (set w (d * cursors_from + group_at w d x) (c + 1)) (d * slots_from + order_at w d c) (slot_at w d x) (d * cursors_from) (d * heap_from) (omega arith) (omega (arith, o_is, o_in)))

      long : d * end_room ≤ length w
      long = s.ground.room.long

      moving : Moving w₂ d (changed s.cursor (s.group x) (stop + 1)) (changed s.slot o (s.slot x))
      moving =
          record {
            cursor_is =
                λ g h.
                get_or-set_other w₁ (d * slots_from + order_at w d c) (d * cursors_from + g) (slot_at w d x) 0 (λ q. omega arith)
                ∙ ⊎_elim
                (λ (q : g ≡ s.group x).
                ap (λ (k : ℕ). get_or w₁ (d * cursors_from + k) 0) (q ∙ sym group_is_lem)
                ∙ get_or-set_same w (d * cursors_from + group_at w d x) (c + 1) 0 (omega (arith, group_in, long))
                ∙ ap (λ (k : ℕ). k + 1) c_is
                ∙ sym (same_at s.cursor (s.group x) (stop + 1) g q))
                (λ (q : g ≡ s.group x → ⊥).
                get_or-set_other w (d * cursors_from + group_at w d x) (d * cursors_from + g) (c + 1) 0 (λ y. q (apart_sums (d * cursors_from) g (group_at w d x) y ∙ group_is_lem))
                ∙ s.moving.cursor_is g h
                ∙ sym (same_past s.cursor (s.group x) (stop + 1) g q))
                (same_or g (s.group x));
            slot_is =
                λ y h. ⊎_elim
                (λ (q : y ≡ o).
                ap (λ (k : ℕ). get_or w₂ (d * slots_from + k) 0) (q ∙ sym o_is)
                ∙ get_or-set_same w₁ (d * slots_from + order_at w d c) (slot_at w d x) 0 (simp length-set (omega (arith, o_is, o_in, long)))
                ∙ slot_here s x x-in
                ∙ sym (same_at s.slot o (s.slot x) y q))
                (λ (q : y ≡ o → ⊥).
                get_or-set_other w₁ (d * slots_from + order_at w d c) (d * slots_from + y) (slot_at w d x) 0 (λ z. q (apart_sums (d * slots_from) y (order_at w d c) z ∙ o_is))
                ∙ get_or-set_other w (d * cursors_from + group_at w d x) (d * slots_from + y) (c + 1) 0 (λ z. omega (arith, group_in))
                ∙ slot_here s y h
                ∙ sym (same_past s.slot o (s.slot x) y q))
                (same_or y o);
          }
        where
          w₁ : List ℕ
          w₁ = set w (d * cursors_from + group_at w d x) (c + 1)

          apart_sums : (a b k : ℕ) → a + b ≡ a + k → b ≡ k
          apart_sums a b k e = omega arith

      o_none : s.slot o < d → ⊥
      o_none h = omega (arith, s.owners.ahead o o_in h, ap s.cursor o_group, reached, s.ground.ordered.back stop stop_in)

      marks_same : marks_in w₂ d ≡ marks_in w d
      marks_same = marks_kept w w₂ d s.ground.room two_words.long (same_below two_words (d * marks_from) (d * order_from) (omega arith))

      -- the slot is the new owner's alone
      abbrev slot' : ℕ → ℕ
      slot' = changed s.slot o (s.slot x)

      handed_next : Owning l w₂ d height slots limit past' (s.slot x)
      handed_next =
          record {
            order = s.order;
            pos = s.pos;
            group = s.group;
            cursor = changed s.cursor (s.group x) (stop + 1);
            slot = slot';
            owner = changed s.owner (s.slot x) o;
            P = s.P;
            ground =
                ground_kept s.ground w₂ two_words.long (same_below two_words 0 (d * pairs_from) (omega arith)) (same_below two_words (d * order_from) (d * sort_keys_from) (omega arith))
                (same_below two_words (d * groups_from) (d * cursors_from) (omega arith)) (two_words.beyond (d * note_from) (omega arith));
            moving = moving;
            owners =
                subst (λ (m : List ℕ). Owners l d s.order s.pos s.group (changed s.cursor (s.group x) (stop + 1)) slot' (changed s.owner (s.slot x) o) (used_of m) past')
                (sym marks_same)
                (next s.ground.ordered s.ground.runs s.owners (there_in s.ground) x x-in x_owner x_used x-holds stop reached passed stop_in o_group o_free);
            filled =
                subst (λ (m : List ℕ). Filled (node_of l) d slots limit (used_of m) past' slot' (changed s.owner (s.slot x) o) s.P (s.slot x)) (sym marks_same)
                (record {
                  held =
                      λ y a b k. ⊎_elim
                      (λ (q : y ≡ o). let v = same_at s.slot o (s.slot x) y q in (subst (λ (z : ℕ). z < slots) (sym v) slot_within, λ n. absurd (n v)))
                      (λ (q : y ≡ o → ⊥).
                      let v = same_past s.slot o (s.slot x) y q in
                      subst (λ (z : ℕ). (z < slots) × ((z ≡ s.slot x → ⊥) → Bound (node_of l) limit (taken_in w d) y (s.P z))) (sym v) (held y a (subst (λ (z : ℕ). z < d) v b) k))
                      (same_or y o);
                  holder =
                      λ y a n k.
                      let t = holder y a n k in
                      let same : changed s.owner (s.slot x) o y ≡ s.owner y = same_past s.owner (s.slot x) o y n in
                      let other : s.owner y ≡ o → ⊥ = (λ q. o_none (subst (λ (z : ℕ). z < d) (sym (ap s.slot (sym q) ∙ t.1)) t.3)) in
                      (subst (λ (z : ℕ). z < d) (sym same) t.0, ap slot' same ∙ same_past s.slot o (s.slot x) (s.owner y) other ∙ t.1, ap past' same ∙ t.2, t.3);
                });
            heaped =
                heaped_kept w w₂ (same_beyond two_words (d * heap_from) (d * heap_from + 4 * slots) (omega arith))
                (record { whole = s.heaped.whole; leaf = λ y a n. s.heaped.leaf y a (λ z. omega arith) ∙ ap (λ (z : ℕ). coded z (s.P y)) (sym (same_past s.owner (s.slot x) o y n)) });
            indexed =
                subst (λ (m : List ℕ). Indexed w₂ (d * index_from) (2 ^ height) l (used_of m) (seated s.order d)) (sym marks_same)
                (indexes_kept w w₂ (d * index_from) (2 ^ height) (λ y. leaf_of l (taken_in w d) (seated s.order d y))
                (same_beyond two_words (d * index_from) (d * index_from + 10 * 2 ^ height) (omega arith)) s.indexed);
          }

      o_past : past' o ≡ false
      o_past =
          is_without past x o (λ q. tf (ap (taken_in w d) q ∙ x_used) o_free)
          (⊎_elim (λ (y : past o ≡ true). absurd (tf (s.owners.past o y) o_free)) (λ (y : past o ≡ false). y) (two (past o)))

      pub stale_next : Stale w₂ d slots height limit (order_at w d c)
      unfolding handed_next
      stale_next =
          subst (λ (z : ℕ). Stale w₂ d slots height limit z) (sym o_is)
          (record {
            query = query handed_next.ground handed_next.indexed o o_in;
            whole = heap_whole handed_next o o_in (subst (λ (z : ℕ). z < d) (sym (same_at s.slot o (s.slot x) o refl)) x_owner) o_past;
          })

      pub replaced_next : {w' : List ℕ} → Refreshed w₂ w' d slots height limit (order_at w d c) → Owning l w' d height slots limit past' slots
      unfolding handed_next
      replaced_next {w'} r =
          owning_refreshed handed_next o o_in x_owner (same_at s.slot o (s.slot x) o refl) o_past (ap (λ (m : List ℕ). used_of m o) marks_same ∙ o_free)
          (subst (λ (z : ℕ). Refreshed w₂ w' d slots height limit z) o_is r)

-- ---- what handing on gives, whoever is taken

module _ {w : List ℕ} {d slots height limit x : ℕ} (r : Replaces w d slots height limit x) where
  pub replaces_idle : d ≤ slot_at w d x → Replaced w w d slots height limit x
  replaces_idle n = record { owning = λ l past s h. handed_idle s x r.within r.taken h n; kept = changes_none w (d * cursors_from) (d * index_from) }

  module _ (x-slot : slot_at w d x < d) {c : ℕ} (u : Due w d (group_at w d x) (cursor_at w d (group_at w d x)) c) where
    pub replaces_none : c ≡ d → {w' : List ℕ} {v : ℕ} → v ≡ none → Sets w w' (d * heap_from) slots (slot_at w d x) v → Replaced w w' d slots height limit x
    replaces_none e q k =
        record {
          owning = λ l past s h. replaced_none s x r.within r.taken h x-slot u e q k;
          kept = changes_wider (d * cursors_from) (d * index_from) (omega arith) (omega arith) (sets_changes r.owning k);
        }

    pub replaces_next : (e : c ≡ d → ⊥) → {w' : List ℕ}
        → Refreshed (set (set w (d * cursors_from + group_at w d x) (c + 1)) (d * slots_from + order_at w d c) (slot_at w d x)) w' d slots height limit (order_at w d c)
        → Replaced w w' d slots height limit x
    replaces_next e f =
        let a = two_words r.owning x r.within r.taken r.holds x-slot u e in
        let b = set_words f.sets in
        record {
          owning = λ l past s h. replaced_next s x r.within r.taken h x-slot u e f;
          kept = changes_then (changes_wider (d * cursors_from) (d * index_from) (omega arith) (omega arith) a) (changes_wider (d * cursors_from) (d * index_from) (omega arith) (omega arith) b);
        }
      where
        set_words : {w₂ w' : List ℕ} {y v : ℕ} → Sets w₂ w' (d * heap_from) slots y v → Changes w₂ w' (d * heap_from) (d * index_from)
        set_words k = record { long = k.kept.long; below = k.kept.below; beyond = λ z h. k.kept.beyond z (omega (arith, heap_in r.owning)) }
