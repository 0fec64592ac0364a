-- What the route keeps where a pair is written, and where an end is marked and leaves the index. Each step writes one part of the workspace, so that what is
-- said of the others stays; and more ends taken leave a bound a bound.
use Prim.Native.Nat.{ℕ, ◌+◌, ◌*◌, ◌^◌, ◌≤◌, ◌<◌}
use mathlib.Core.Path.{◌≡◌, sym, ◌∙◌, ap, subst}
use mathlib.Core.Bool.{Bool, true, false, cond, ◌||◌}
use mathlib.Core.List.{List}
use mathlib.Core.Logic.{◌⊎◌, inl, inr, ⊎_elim}
use native.Mathlib.Omega.{arith}
use lib.Dec.{eqb}
use lib.ListN.{length, get_or, set}
use lib.Seq.{get_or-set_same, get_or-set_other}
use Rattle.rules.specs.Selecting.{End}
use Rattle.pair_bounds.specs.Box.{empty_of, union_of, Sound}
use Rattle.pair_laws.specs.Ranked.{RankedPair, Node, busy}
use Rattle.pair_laws.specs.Ends.{end_at, node_of}
use Rattle.pair_laws.specs.Taking.{used_of}
use Rattle.pair_laws.proofs.Greedy.{or_false_left, or_false_right}
use Rattle.pair_laws.proofs.Order.{two, tf}
use Rattle.pair_laws.proofs.Owners.{There}
use Rattle.pair_ends.specs.Blocks.{pairs_from, marks_from, order_from, positions_from, sort_keys_from, groups_from, cursors_from, slots_from, heap_from, index_from, note_from}
use Rattle.rules.specs.Refusals.{end_room}
use Rattle.pair_ends.specs.Ends.{ends_in}
use Rattle.pair_tree.specs.Flat.{changed, own}
use Rattle.pair_tree.specs.Words.{Changes}
use Rattle.pair_tree.proofs.Flat.{same_or, below_or, kept_same}
use Rattle.pair_tree.proofs.Words.{changes_set}
use Rattle.pair_index.specs.Nodes.{node_at, Indexes, Removes}
use Rattle.pair_index.specs.Nodes as index
use Rattle.pair_index.specs.Search.{round_at}
use Rattle.pair_index.specs.Index.{box_of, leaf_of, LeavesPlaced, Indexed, Finite, Noted, Query, RankedFirst, Answers}
use Rattle.pair_ends.proofs.Reading.{ends_in_placed}
use Rattle.pair_index.proofs.Leaves.{there_below}
use Rattle.pair_index.proofs.Book.{from_book}
use Rattle.pair_heap.specs.Heap as heap
use Rattle.pair_owners.specs.Tables.{position_at, slot_at}
use Rattle.pair_owners.specs.Owners.{Owners}
use Rattle.pair_owners.proofs.Next.{more_used, same_at, same_past}
use Rattle.pair_owners.proofs.Seats.{seated, seated_in, seated_out, placed}
use Rattle.pair_owners.proofs.Turns.{room_kept, same_words_lem}
use Rattle.pair_indexed.specs.Route.{marks_in, taken_in, Moving, Bound, Ground, Filled, Owning, marked}
use Rattle.pair_indexed.proofs.Parts.{Same, same_below, same_beyond, slice_set, marks_kept, marks_length, indexes_kept, heaped_kept, indexes_own, ends_same}

-- ---- bounds

pub bound_of : {n : Node} {limit : ℕ} {used : ℕ → Bool} {o : ℕ} {p : RankedPair} → RankedFirst n limit used o p → Bound n limit used o p
bound_of h = record { nothing = h.nothing; member = h.member; owned = h.owned; first = h.first }

-- fewer pairs are free where more ends are taken
free_back : (used used' : ℕ → Bool) → ((e : ℕ) → used e ≡ true → used' e ≡ true) → (q : RankedPair) → busy used' q ≡ false → busy used q ≡ false
unfolding busy
free_back used used' f q b =
    neither (used q.i) (used q.j) (back q.i (or_false_left (used' q.i) (used' q.j) b)) (back q.j (or_false_right (used' q.i) (used' q.j) b))
  where
    back : (e : ℕ) → used' e ≡ false → used e ≡ false
    back e u = ⊎_elim (λ (y : used e ≡ true). absurd (tf (f e y) u)) (λ (y : used e ≡ false). y) (two (used e))

    neither : (x y : Bool) → x ≡ false → y ≡ false → (x || y) ≡ false
    neither x y p q = rw (p, q)

bound_more : {n : Node} {limit : ℕ} {used used' : ℕ → Bool} {o : ℕ} {p : RankedPair} → ((e : ℕ) → used e ≡ true → used' e ≡ true) → Bound n limit used o p → Bound n limit used' o p
bound_more {n} {limit} {used} {used'} f h =
    record {
      nothing = λ e q m b. h.nothing e q m (free_back used used' f q b);
      member = h.member;
      owned = h.owned;
      first = λ e q m b. h.first e q m (free_back used used' f q b);
    }

pub filled_more : {n : Node} {d slots limit : ℕ} {used used' past : ℕ → Bool} {slot owner : ℕ → ℕ} {P : ℕ → RankedPair} {but : ℕ} → ((e : ℕ) → used e ≡ true → used' e ≡ true)
    → Filled n d slots limit used past slot owner P but → Filled n d slots limit used' past slot owner P but
filled_more f k = record { held = λ e a b c. (let t = k.held e a b c in (t.0, λ n. bound_more f (t.1 n))); holder = k.holder }

-- ---- the ground

-- a note that stays is as true as before
pub note_kept : (w w' : List ℕ) (d : ℕ) (l : List End) → get_or w' (d * note_from) 0 ≡ get_or w (d * note_from) 0 → Noted w d l → Noted w' d l
unfolding round_at
note_kept w w' d l n t h = t (sym (ap (λ (x : ℕ). eqb x 1) n) ∙ h)

pub ground_kept : {l : List End} {w : List ℕ} {d height slots limit : ℕ} {order pos group : ℕ → ℕ} → Ground l w d height slots limit order pos group
    → (w' : List ℕ) → length w' ≡ length w → Same w w' 0 (d * pairs_from) → Same w w' (d * order_from) (d * sort_keys_from) → Same w w' (d * groups_from) (d * cursors_from)
    → get_or w' (d * note_from) 0 ≡ get_or w (d * note_from) 0 → Ground l w' d height slots limit order pos group
ground_kept {l} {w} {d} {height} {slots} {limit} {order} g w' long a b c n =
    record {
      room = record { few = g.room.few; long = omega (arith, g.room.long) };
      ends = ends_same w w' d g.room long a ∙ g.ends;
      sized = g.sized;
      limited = g.limited;
      bounded = g.bounded;
      finite_ends = g.finite_ends;
      noted = note_kept w w' d l n g.noted;
      twice = g.twice;
      fixed =
          record {
            order_is = λ p h. b (d * order_from + p) (omega arith) (omega arith) ∙ g.fixed.order_is p h;
            pos_is = λ e h. b (d * positions_from + e) (omega arith) (omega arith) ∙ g.fixed.pos_is e h;
            group_is_lem = λ e h. c (d * groups_from + e) (omega arith) (omega arith) ∙ g.fixed.group_is_lem e h;
          };
      ordered = g.ordered;
      runs = g.runs;
      whole =
          λ p q h k t. g.whole p q h k
          (same_words_lem (λ i j. sym (a i (omega arith) (omega arith))) (order p) (order q) (g.ordered.order_in p (omega arith)) (g.ordered.order_in q k) t);
    }

pub moving_kept : {w w' : List ℕ} {d : ℕ} {cursor slot : ℕ → ℕ} → Moving w d cursor slot → Same w w' (d * cursors_from) (d * heap_from) → Moving w' d cursor slot
moving_kept {w} {w'} {d} m f =
    record {
      cursor_is = λ g h. f (d * cursors_from + g) (omega arith) (omega arith) ∙ m.cursor_is g h;
      slot_is = λ e h. f (d * slots_from + e) (omega arith) (omega arith) ∙ m.slot_is e h;
    }

-- an end with a direction is one of the d
pub there_in : {l : List End} {w : List ℕ} {d height slots limit : ℕ} {order pos group : ℕ → ℕ} → Ground l w d height slots limit order pos group
    → (e : ℕ) → There l e → e < d
there_in g e t = there_below g.room e (subst (λ (x : List End). There x e) (sym g.ends) t)

-- ---- what the index answers

module _ {l : List End} {w : List ℕ} {d height slots limit : ℕ} {order pos group : ℕ → ℕ} (g : Ground l w d height slots limit order pos group)
    (x : Indexed w (d * index_from) (2 ^ height) l (taken_in w d) (seated order d)) where
  pub seats : LeavesPlaced (seated order d) pos d (2 ^ height)
  seats = placed (2 ^ height) g.sized.few g.ordered

  indexed_ends : Indexed w (d * index_from) (2 ^ height) (ends_in w d) (taken_in w d) (seated order d)
  indexed_ends = subst (λ (z : List End). Indexed w (d * index_from) (2 ^ height) z (taken_in w d) (seated order d)) (sym g.ends) x

  pub query : (o : ℕ) → o < d → Query w d (d * index_from) height limit o
  query o h =
      record {
        room = g.room;
        inside = omega (arith, g.sized.most, g.room.long);
        limited = g.limited;
        within = h;
        finite_ends = subst (λ (z : List End). Finite z) (sym g.ends) g.finite_ends;
        noted = subst (λ (z : List End). Noted w d z) (sym g.ends) g.noted;
        used = taken_in w d;
        order = seated order d;
        pos = pos;
        placed = seats;
        indexed = indexed_ends;
      }

  pub answered : (o : ℕ) (b : RankedPair) → Answers w d (d * index_from) height limit o b → taken_in w d o ≡ false → RankedFirst (node_of l) limit (taken_in w d) o b
  answered o b a f =
      subst (λ (z : List End). RankedFirst (node_of z) limit (taken_in w d) o b) g.ends
      (from_book g.bounded.1 (ends_in_placed w d (omega (arith, g.room.long)))
      (a.first (taken_in w d) (seated order d) pos seats indexed_ends f g.bounded.0 g.bounded.1))

module _ {l : List End} {w : List ℕ} {d height slots limit : ℕ} {past : ℕ → Bool} {but : ℕ} (s : Owning l w d height slots limit past but) where
  long : d * end_room ≤ length w
  long = s.ground.room.long

  pub heap_in : d * heap_from + 4 * slots ≤ d * index_from
  heap_in = omega (arith, s.ground.sized.narrow)

  pub index_in : d * index_from + 10 * 2 ^ height ≤ d * note_from
  index_in = omega (arith, s.ground.sized.most)

  pub slot_here : (e : ℕ) → e < d → slot_at w d e ≡ s.slot e
  slot_here e h = s.moving.slot_is e h

  pub heap_whole : (e : ℕ) → e < d → s.slot e < d → past e ≡ false → heap.HeapWhole w (d * heap_from) slots (slot_at w d e)
  heap_whole e h i p =
      record {
        wide = record { some = s.ground.sized.some; inside = omega (arith, heap_in, long) };
        within = omega (arith, slot_here e h, (s.filled.held e h i p).0);
        whole = s.heaped.whole;
      }

  pub index_whole : (e : ℕ) → e < d → index.IndexWhole w (d * index_from) (2 ^ height) (position_at w d e)
  index_whole e h =
      record {
        wide = record { some = omega (arith, s.ground.sized.few); inside = omega (arith, index_in, long) };
        within = omega (arith, s.ground.fixed.pos_is e h, s.ground.ordered.pos_in e h, s.ground.sized.few);
        whole = indexes_own w (d * index_from) (2 ^ height) (λ p. leaf_of l (taken_in w d) (seated s.order d p)) s.indexed;
      }

  -- two owners have two slots
  pub slots_apart : (e x : ℕ) → e < d → x < d → s.slot e < d → s.slot x < d → past e ≡ false → past x ≡ false → s.slot e ≡ s.slot x → e ≡ x
  slots_apart e x a b i j p q h = sym (s.owners.holds e a i p) ∙ ap s.owner h ∙ s.owners.holds x b j q

  -- ---- a pair is written
  pub owning_written : {w' : List ℕ} → Changes w w' (d * pairs_from) (d * marks_from) → Owning l w' d height slots limit past but
  owning_written {w'} c =
      let marks = marks_kept w w' d s.ground.room c.long (same_beyond c (d * marks_from) (d * order_from) (omega arith)) in
      record {
        order = s.order;
        pos = s.pos;
        group = s.group;
        cursor = s.cursor;
        slot = s.slot;
        owner = s.owner;
        P = s.P;
        ground =
            ground_kept s.ground w' c.long (same_below c 0 (d * pairs_from) (omega arith)) (same_beyond c (d * order_from) (d * sort_keys_from) (omega arith))
            (same_beyond c (d * groups_from) (d * cursors_from) (omega arith)) (c.beyond (d * note_from) (omega arith));
        moving = moving_kept s.moving (same_beyond c (d * cursors_from) (d * heap_from) (omega arith));
        owners = subst (λ (m : List ℕ). Owners l d s.order s.pos s.group s.cursor s.slot s.owner (used_of m) past) (sym marks) s.owners;
        filled = subst (λ (m : List ℕ). Filled (node_of l) d slots limit (used_of m) past s.slot s.owner s.P but) (sym marks) s.filled;
        heaped = heaped_kept w w' (same_beyond c (d * heap_from) (d * heap_from + 4 * slots) (omega arith)) s.heaped;
        indexed =
            subst (λ (m : List ℕ). Indexed w' (d * index_from) (2 ^ height) l (used_of m) (seated s.order d)) (sym marks)
            (indexes_kept w w' (d * index_from) (2 ^ height) (λ p. leaf_of l (taken_in w d) (seated s.order d p))
            (same_beyond c (d * index_from) (d * index_from + 10 * 2 ^ height) (omega arith)) s.indexed);
      }

  -- ---- the end x is marked, and leaves the index
  module _ (x : ℕ) (h : x < d) {w' : List ℕ} (r : Removes (marked w d x) w' (d * index_from) (2 ^ height) (position_at w d x)) where
    abbrev w₁ : List ℕ
    w₁ = marked w d x

    mark : Changes w w₁ (d * marks_from) (d * order_from)
    mark = changes_set w (d * marks_from + x) 1 (d * marks_from) (d * order_from) (omega arith) (omega arith)

    whole_long : length w' ≡ length w
    whole_long = r.kept.long ∙ mark.long

    same_all : (a b : ℕ) → (b ≤ d * marks_from) ⊎ ((d * order_from ≤ a) × (b ≤ d * index_from)) → Same w w' a b
    same_all a b (inl p) k y z = r.kept.below k (omega arith) ∙ mark.below k (omega arith)
    same_all a b (inr p) k y z = r.kept.below k (omega (arith, p.1)) ∙ mark.beyond k (omega (arith, p.0))

    pub marks_retired : marks_in w' d ≡ set (marks_in w d) x 1
    marks_retired =
        marks_kept w₁ w' d (room_kept mark s.ground.room) r.kept.long (same_below r.kept (d * marks_from) (d * order_from) (omega arith)) ∙ slice_set w (d * marks_from) (d * order_from) x 1 (omega arith)

    used' : ℕ → Bool
    used' = used_of (set (marks_in w d) x 1)

    x_used : used' x ≡ true
    unfolding used'
    x_used = rw (get_or-set_same (marks_in w d) x 1 0 (omega (arith, marks_length w d s.ground.room)))

    past_x : (e : ℕ) → (e ≡ x → ⊥) → used' e ≡ taken_in w d e
    unfolding used'
    past_x e n = rw (get_or-set_other (marks_in w d) x e 1 0 n)

    used_more : (e : ℕ) → taken_in w d e ≡ true → used' e ≡ true
    used_more e u = ⊎_elim (λ (q : e ≡ x). ap used' q ∙ x_used) (λ (q : e ≡ x → ⊥). past_x e q ∙ u) (same_or e x)

    -- the leaves
    leaf_same : (p : ℕ) → p < 2 ^ height
        → changed (own (node_at w₁ (d * index_from)) (2 ^ height)) (position_at w d x) empty_of p ≡ leaf_of l used' (seated s.order d p)
    leaf_same p i =
        ⊎_elim
        (λ (q : p ≡ s.pos x).
        same_at (own (node_at w₁ (d * index_from)) (2 ^ height)) (position_at w d x) empty_of p (q ∙ sym px)
        ∙ sym (ap (λ (u : Bool). cond u empty_of (box_of (end_at l (seated s.order d p)).direction (seated s.order d p))) (ap used' (at_x p q) ∙ x_used)))
        (λ (q : p ≡ s.pos x → ⊥).
        same_past (own (node_at w₁ (d * index_from)) (2 ^ height)) (position_at w d x) empty_of p (λ y. q (y ∙ px))
        ∙ old.leaves p i
        ∙ ap (λ (u : Bool). cond u empty_of (box_of (end_at l (seated s.order d p)).direction (seated s.order d p)))
        (sym (past_x (seated s.order d p) (off_x p q))))
        (same_or p (s.pos x))
      where
        px : position_at w d x ≡ s.pos x
        px = s.ground.fixed.pos_is x h

        old : Indexes w₁ (d * index_from) (2 ^ height) (λ p. leaf_of l (taken_in w d) (seated s.order d p))
        old =
            indexes_kept w w₁ (d * index_from) (2 ^ height) (λ p. leaf_of l (taken_in w d) (seated s.order d p))
            (same_beyond mark (d * index_from) (d * index_from + 10 * 2 ^ height) (omega arith)) s.indexed

        at_x : (p : ℕ) → p ≡ s.pos x → seated s.order d p ≡ x
        at_x p q = ap (seated s.order d) q ∙ (seats s.ground s.indexed).seat x h

        off_x : (p : ℕ) → (p ≡ s.pos x → ⊥) → seated s.order d p ≡ x → ⊥
        off_x p q e =
            ⊎_elim
            (λ (c : p < d). q (sym (s.ground.ordered.back p c) ∙ ap s.pos (sym (seated_in s.order d p c) ∙ e)))
            (λ (c : d ≤ p). omega (arith, e, seated_out s.order d p c))
            (below_or p d)

    pub owning_retired : Owning l w' d height slots limit past but
    unfolding used'
    owning_retired =
        record {
          order = s.order;
          pos = s.pos;
          group = s.group;
          cursor = s.cursor;
          slot = s.slot;
          owner = s.owner;
          P = s.P;
          ground =
              ground_kept s.ground w' whole_long (same_all 0 (d * pairs_from) (inl (omega arith))) (same_all (d * order_from) (d * sort_keys_from) (inr (omega arith, omega arith)))
              (same_all (d * groups_from) (d * cursors_from) (inr (omega arith, omega arith))) (r.kept.beyond (d * note_from) (omega (arith, index_in)) ∙ mark.beyond (d * note_from) (omega arith));
          moving = moving_kept s.moving (same_all (d * cursors_from) (d * heap_from) (inr (omega arith, omega arith)));
          owners =
              subst (λ (m : List ℕ). Owners l d s.order s.pos s.group s.cursor s.slot s.owner (used_of m) past) (sym marks_retired)
              (more_used s.owners used_more);
          filled =
              subst (λ (m : List ℕ). Filled (node_of l) d slots limit (used_of m) past s.slot s.owner s.P but) (sym marks_retired) (filled_more used_more s.filled);
          heaped = heaped_kept w w' (same_all (d * heap_from) (d * heap_from + 4 * slots) (inr (omega arith, omega (arith, heap_in)))) s.heaped;
          indexed =
              subst (λ (m : List ℕ). Indexed w' (d * index_from) (2 ^ height) l (used_of m) (seated s.order d)) (sym marks_retired)
              (kept_same union_of Sound (node_at w' (d * index_from)) (2 ^ height) 1 0 (changed (own (node_at w₁ (d * index_from)) (2 ^ height)) (position_at w d x) empty_of)
              (λ p. leaf_of l used' (seated s.order d p)) leaf_same r.whole);
        }

    pub retired_changes : Changes w w' (d * marks_from) (d * note_from)
    retired_changes =
        record {
          long = whole_long;
          below = λ k y. r.kept.below k (omega arith) ∙ mark.below k y;
          beyond = λ k y. r.kept.beyond k (omega (arith, index_in)) ∙ mark.beyond k (omega arith);
        }
