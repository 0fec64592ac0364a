-- The ends in order: sorting and their positions stand in the rest of the workspace from 6 d on, and what is said of that rest holds of the workspace.
use Prim.Native.Nat.{ℕ, ◌+◌, ◌-◌, ◌*◌, ◌≤◌, ◌<◌}
use mathlib.Core.Path.{◌≡◌, refl, sym, ◌∙◌, ap, subst}
use mathlib.Core.List.{List, ◌++◌}
use native.Mathlib.Omega.{arith}
use lib.ListN.{length, get_or, take, drop, replicate, length-append, length-drop, get_or-append}
use lib.Seq.{drop_at, get_or-drop, get_or-take, length-take-le}
use borrow.Rule.Slice.PartMut.{mid_of, put_mid}
use Rattle.rules.specs.Lists.{upto}
use Rattle.rules.specs.Selecting.{End}
use Rattle.point_slices.specs.Holds.{HoldsFrom}
use Rattle.point_slices.proofs.Laws.{mid_rest, put_rest, from_length}
use Rattle.pair_sorting.specs.Order.{three_words, key_le, sort_by, positions_in}
use Rattle.pair_sorting.specs.Runs.{Permuted}
use Rattle.pair_sorting.proofs.Words.{words_rest}
use Rattle.pair_sorting.proofs.Tables.{Ordered, sorted_permuted, ordered_tables}
use Rattle.pair_ends.specs.Blocks.{pieces_from, marks_from, order_from, positions_from, sort_keys_from, groups_from, cursors_from, slots_from, heap_from}
use Rattle.pair_ends.specs.Ends.{EndsRoom, ends_in}
use Rattle.pair_tree.specs.Words.{Changes}
use Rattle.pair_owners.specs.Tables.{order_at, position_at, group_at, cursor_at, slot_at, OneDirection, Together, TablesSorted, GroupRuns, GroupOfDirection, Started, Groups}
use Rattle.pair_owners.specs.Angles.{Keys}
use Rattle.pair_owners.proofs.Turns.{room_kept, ends_kept, sorted_kept, same_words_lem}
use Rattle.pair_owners.proofs.Together.{words_of, keyed_together}
use Rattle.pair_indexed.specs.Start.{Arranged}

-- ---- the rest of a list, written anew

module _ (w p : List ℕ) (at : ℕ) (h : at ≤ length w) where
  abbrev whole : List ℕ
  whole = put_mid at (length w - at) w p

  first_long : length (take at w) ≡ at
  first_long = length-take-le at w h

  put_drop : drop at whole ≡ p
  put_drop = ap (drop at) (put_rest w p at) ∙ drop_at (take at w) p at first_long

  put_mid_lem : mid_of at (length whole - at) whole ≡ p
  put_mid_lem = mid_rest whole at ∙ put_drop

  put_at : (i : ℕ) → get_or whole (at + i) 0 ≡ get_or p i 0
  put_at i = sym (get_or-drop at whole i 0) ∙ ap (λ (l : List ℕ). get_or l i 0) put_drop

  put_below : (k : ℕ) → k < at → get_or whole k 0 ≡ get_or w k 0
  put_below k i = ap (λ (l : List ℕ). get_or l k 0) (put_rest w p at) ∙ get_or-append (take at w) p 0 k (omega (arith, first_long)) ∙ get_or-take at w k 0 i

  put_long : length p ≡ length w - at → length whole ≡ length w
  put_long e = ap length (put_rest w p at) ∙ length-append (take at w) p ∙ sums (length (take at w)) (length p) first_long e
    where
      sums : (a b : ℕ) → a ≡ at → b ≡ length w - at → a + b ≡ length w
      sums a b x y = omega arith

-- ---- the order and the positions

module _ (w p₁ : List ℕ) (d : ℕ) (room : EndsRoom w d)
    (s : p₁ ≡ sort_by (key_le (mid_of (d * order_from) (length w - d * order_from) w) (d * 2)) (upto d) ++ (replicate d 0 ++ drop (d * 2) (mid_of (d * order_from) (length w - d * order_from) w))) where
  abbrev at : ℕ
  at = d * order_from

  abbrev p₀ : List ℕ
  p₀ = mid_of at (length w - at) w

  abbrev w₂ : List ℕ
  w₂ = put_mid at (length w - at) w p₁

  at_in : at ≤ length w
  at_in = omega (arith, room.long)

  part_long : length p₀ ≡ length w - at
  part_long = ap length (mid_rest w at) ∙ length-drop at w

  five : d * marks_from ≤ length p₀
  five = omega (arith, part_long, room.long)

  pub part_permuted : Permuted (mid_of at (length w₂ - at) w₂) d
  part_permuted = subst (λ (l : List ℕ). Permuted l d) (sym (put_mid_lem w p₁ at at_in)) (sorted_permuted p₁ p₀ d s five)

  module _ {p₂ : List ℕ} (f : HoldsFrom p₂ (mid_of at (length w₂ - at) w₂) d d (positions_in (take d (mid_of at (length w₂ - at) w₂)) d)) where
    abbrev w₃ : List ℕ
    w₃ = put_mid at (length w₂ - at) w₂ p₂

    tables : Ordered p₂ p₀ d
    tables = ordered_tables p₁ p₀ d s five (subst (λ (l : List ℕ). HoldsFrom p₂ l d d (positions_in (take d l) d)) (put_mid_lem w p₁ at at_in) f)

    long₂ : length w₂ ≡ length w
    long₂ =
        put_long w p₁ at at_in
        (ap length (sym (put_mid_lem w p₁ at at_in)) ∙ sym (from_length f (omega (arith, part_permuted.room))) ∙ tables.long ∙ part_long)

    at_in₂ : at ≤ length w₂
    at_in₂ = omega (arith, long₂, at_in)

    order_is : (p : ℕ) → order_at w₃ d p ≡ get_or p₂ p 0
    order_is p = put_at w₂ p₂ at at_in₂ p

    position_is : (e : ℕ) → position_at w₃ d e ≡ get_or p₂ (d + e) 0
    position_is e = ap (λ (k : ℕ). get_or w₃ k 0) behind ∙ put_at w₂ p₂ at at_in₂ (d + e)
      where
        behind : d * positions_from + e ≡ at + (d + e)
        behind = omega arith

    pub part_changes : Changes w w₃ (d * order_from) (d * sort_keys_from)
    part_changes =
        record {
          long = put_long w₂ p₂ at at_in₂ (tables.long ∙ part_long ∙ ap (λ (k : ℕ). k - at) (sym long₂)) ∙ long₂;
          below = λ k h. put_below w₂ p₂ at at_in₂ k h ∙ put_below w p₁ at at_in k h;
          beyond =
              λ k h.
              let i = k - d * sort_keys_from in
              ap (λ (x : ℕ). get_or w₃ x 0) (place k h) ∙ put_at w₂ p₂ at at_in₂ (d * 2 + i)
              ∙ sym (get_or-drop (d * 2) p₂ i 0) ∙ ap (λ (l : List ℕ). get_or l i 0) tables.beyond ∙ get_or-drop (d * 2) p₀ i 0
              ∙ ap (λ (l : List ℕ). get_or l (d * 2 + i) 0) (mid_rest w at) ∙ get_or-drop at w (d * 2 + i) 0 ∙ ap (λ (x : ℕ). get_or w x 0) (sym (place k h));
        }
      where
        place : (k : ℕ) → d * sort_keys_from ≤ k → k ≡ at + (d * 2 + (k - d * sort_keys_from))
        place k h = omega arith

    pub part_sorted : TablesSorted w₃ d
    part_sorted =
        record {
          room = room_kept part_changes room;
          order =
              record {
                order_in = λ p h. omega (arith, order_is p, tables.end_below p h);
                pos_in = λ e h. omega (arith, position_is e, tables.place_below e h);
                seat = λ e h. order_is (position_at w₃ d e) ∙ ap (λ (k : ℕ). get_or p₂ k 0) (position_is e) ∙ tables.end_at_lem e h;
                back = λ p h. position_is (order_at w₃ d p) ∙ ap (λ (k : ℕ). get_or p₂ (d + k) 0) (order_is p) ∙ tables.place_of p h;
              };
        }

    -- ends of one direction stand together, since they are sorted by the words that `keys` wrote
    module _ {w₀ : List ℕ} (k : Keys w₀ w d) where
      three : (p : ℕ) → three_words p₀ (d * 2) (get_or p₂ p 0) ≡ words_of w d (order_at w₃ d p)
      unfolding three_words
      three p =
          let e = order_at w₃ d p in
          let a : at + d * 2 ≡ d * sort_keys_from = omega arith in
          ap (three_words p₀ (d * 2)) (sym (order_is p))
          ∙ ap (λ (l : List ℕ). three_words l (d * 2) e) (mid_rest w at)
          ∙ ap (λ (f : ℕ → List ℕ). f e) (words_rest w at (d * 2))
          ∙ ap (λ (x : ℕ). three_words w x e) a

      kept : (i : ℕ) → i < d * pieces_from → get_or w₃ i 0 ≡ get_or w₀ i 0
      kept i h = part_changes.below i (omega arith) ∙ k.kept.below i (omega arith)

      together₀ : Together w₀ d (order_at w₃ d)
      together₀ =
          keyed_together k part_sorted.order.order_in
          (λ p r q a b h e. sym (three p) ∙ tables.between p r q a b h (three p ∙ e ∙ sym (three q)) ∙ three r)
          (λ p q a h e. omega (arith, order_is p, order_is q, tables.ascending p q a h (three p ∙ e ∙ sym (three q))))

      pub part_together : Together w₃ d (order_at w₃ d)
      part_together p q h l s =
          let o = part_sorted.order.order_in in
          let t = together₀ p q h l (same_words_lem (λ i j. sym (kept i j)) (order_at w₃ d p) (order_at w₃ d q) (o p (omega arith)) (o q l) s) in
          (same_words_lem kept (order_at w₃ d (q - 1)) (order_at w₃ d q) (o (q - 1) (omega arith)) (o q l) t.0, t.1)

-- ---- with the groups

-- tables that agree on the d ends and positions
module _ {order order' group group' : ℕ → ℕ} {d : ℕ} (same : (p : ℕ) → p < d → order' p ≡ order p) (grouped : (e : ℕ) → e < d → group' e ≡ group e)
    (inside : (p : ℕ) → p < d → order p < d) where
  group_same : (p : ℕ) → p < d → group' (order' p) ≡ group (order p)
  group_same p h = ap group' (same p h) ∙ grouped (order p) (inside p h)

  runs_agree : {l : List End} → GroupRuns l order group d → GroupRuns l order' group' d
  runs_agree r =
      record {
        below = λ p h. rw (group_same p h) (r.below p h);
        start =
            λ p h. ap (λ (x : ℕ). group' (order' x)) (group_same p h) ∙ group_same (group (order p)) (omega (arith, r.below p h)) ∙ r.start p h ∙ sym (group_same p h);
        rises = λ p q k h. rw (group_same p (omega arith), group_same q h) (r.rises p q k h);
        alike = λ p q k h e. rw (same p (omega arith), same q h) (r.alike p q k h (sym (group_same p (omega arith)) ∙ e ∙ group_same q h));
      }

  whole_agree : {w w' : List ℕ} → ((i : ℕ) → i < d * pieces_from → get_or w' i 0 ≡ get_or w i 0) → GroupOfDirection w d order group d → GroupOfDirection w' d order' group' d
  whole_agree {w} {w'} f g p q h k t =
      group_same p (omega arith)
      ∙ g p q h k
      (same_words_lem (λ i j. sym (f i j)) (order p) (order q) (inside p (omega arith)) (inside q k)
      (subst (λ (x : ℕ). OneDirection w' d x (order q)) (same p (omega arith)) (subst (λ (x : ℕ). OneDirection w' d (order' p) x) (same q k) t)))
      ∙ sym (group_same q k)

  started_agree : {l : List End} {cursor cursor' slot slot' own : ℕ → ℕ} {m : ℕ} → ((p : ℕ) → p < d → cursor' p ≡ cursor p) → ((e : ℕ) → e < d → slot' e ≡ slot e)
      → Started l order group cursor slot own d d m → Started l order' group' cursor' slot' own d d m
  started_agree {l} {cursor} {cursor'} {slot} {slot'} {own} f g s =
      record {
        few = s.few;
        held = λ p h. rw (slot_same p h, group_same p h, same p h) (s.held p h);
        holder =
            λ x h.
            let t = s.holder x h in
            let u = t.1 in
            (g (own x) (subst (λ (y : ℕ). y < d) (sym u.2) (inside u.0 u.1)) ∙ t.0, (u.0, u.1, u.2 ∙ sym (same u.0 u.1)), t.2);
        due = λ p h. rw (slot_same p h, group_same p h, same p h) (s.due p h);
        cursors = λ p h. f p h ∙ s.cursors p h;
      }
    where
      slot_same : (p : ℕ) → p < d → slot' (order' p) ≡ slot (order p)
      slot_same p h = ap slot' (same p h) ∙ g (order p) (inside p h)

pub arranged : {w w' : List ℕ} {d m : ℕ} → TablesSorted w d → Groups w w' d m → Arranged w' d m
arranged {w} {w'} {d} {m} z g =
    record {
      sorted = sorted_kept g.kept (omega arith) z;
      runs = subst (λ (l : List End). GroupRuns l (order_at w' d) (group_at w' d) d) ends (runs_agree same (λ e h. refl) z.order.order_in g.runs);
      whole = whole_agree {group = group_at w' d} same (λ e h. refl) z.order.order_in (λ i h. g.kept.below i (omega arith)) g.whole;
      own = g.own;
      started =
          subst (λ (l : List End). Started l (order_at w' d) (group_at w' d) (cursor_at w' d) (slot_at w' d) g.own d d m) ends
          (started_agree same (λ e h. refl) z.order.order_in (λ p h. refl) (λ e h. refl) g.started);
    }
  where
    same : (p : ℕ) → p < d → order_at w' d p ≡ order_at w d p
    same p h = g.kept.below (d * order_from + p) (omega arith)

    ends : ends_in w d ≡ ends_in w' d
    ends = sym (ends_kept g.kept (omega arith) z.room)

-- the tables stay where words behind them are written
pub arranged_kept : {w w' : List ℕ} {d m a b : ℕ} → Changes w w' a b → d * heap_from ≤ a → Arranged w d m → Arranged w' d m
arranged_kept {w} {w'} {d} {m} c k x =
    record {
      sorted = sorted_kept c (omega arith) x.sorted;
      runs = subst (λ (l : List End). GroupRuns l (order_at w' d) (group_at w' d) d) ends (runs_agree order group x.sorted.order.order_in x.runs);
      whole = whole_agree order group x.sorted.order.order_in (λ i h. c.below i (omega arith)) x.whole;
      own = x.own;
      started =
          subst (λ (l : List End). Started l (order_at w' d) (group_at w' d) (cursor_at w' d) (slot_at w' d) x.own d d m) ends
          (started_agree order group x.sorted.order.order_in (λ p h. c.below (d * cursors_from + p) (omega arith)) (λ e h. c.below (d * slots_from + e) (omega arith)) x.started);
    }
  where
    order : (p : ℕ) → p < d → order_at w' d p ≡ order_at w d p
    order p h = c.below (d * order_from + p) (omega arith)

    group : (e : ℕ) → e < d → group_at w' d e ≡ group_at w d e
    group e h = c.below (d * groups_from + e) (omega arith)

    ends : ends_in w d ≡ ends_in w' d
    ends = sym (ends_kept c (omega arith) x.sorted.room)
