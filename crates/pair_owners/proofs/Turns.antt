-- The turns of the loops over the order, as words are written: one position more is grouped, or one taken end more is passed over.
use Prim.Native.Nat.{ℕ, ◌+◌, ◌-◌, ◌*◌, ◌≤◌, ◌<◌}
use mathlib.Core.Path.{◌≡◌, refl, sym, ◌∙◌, ap, subst}
use mathlib.Core.Bool.{Bool, true, false, cond}
use mathlib.Core.Logic.{◌⊎◌, inl, inr, ⊎_elim}
use mathlib.Core.List.{List}
use native.Mathlib.Omega.{arith}
use mir.Val.{bool_byte}
use lib.Dec.{eqb, ltb}
use lib.ListN.{length, get_or, set, take}
use lib.Seq.{get_or-set_same, get_or-set_other, get_or-take, ext_get_or, length-take-le}
use borrow.Author.Tests.{eq-eqb, ne_eqb, lt-ltb, ltb-true, ltb-false}
use Rattle.rules.specs.Answers.{Toward}
use Rattle.rules.specs.Plane.{float}
use Rattle.rules.specs.Selecting.{End}
use Rattle.pair_laws.specs.Ends.{there}
use Rattle.pair_laws.proofs.Owners.{There}
use Rattle.pair_ends.specs.Blocks.{pieces_from, pairs_from, order_from, positions_from, sort_keys_from, groups_from, cursors_from, slots_from, heap_from}
use Rattle.rules.specs.Refusals.{end_room}
use Rattle.pair_ends.specs.Ends.{EndsRoom, ends_in}
use Rattle.pair_ends.proofs.Reading.{direction_toward, direction_absent, ends_in_kept}
use Rattle.pair_tree.specs.Flat.{changed}
use Rattle.pair_tree.specs.Words.{Changes}
use Rattle.pair_tree.proofs.Flat.{below_or}
use Rattle.pair_tree.proofs.Words.{changes_none, changes_then, changes_wider, changes_set}
use Rattle.pair_index.proofs.Leaves.{direction_is, is_there}
use Rattle.pair_owners.specs.Tables.{mark_at, order_at, position_at, group_at, cursor_at, slot_at, owners, OneDirection, Together, TablesSorted, Like, GroupRuns, GroupOfDirection, alike_at, group_of, Grouped, Slotted, Started, Groups}
use Rattle.pair_owners.proofs.Grouping.{runs_next, whole_next, started_none, started_one, runs_start, started_start}

-- ---- what a write elsewhere keeps

pub room_kept : {w w' : List ℕ} {d a b : ℕ} → Changes w w' a b → EndsRoom w d → EndsRoom w' d
room_kept c r = record { few = r.few; long = omega (arith, r.long, c.long) }

-- the words before the pairs are unchanged
pub take_kept : {w w' : List ℕ} {a b : ℕ} (n : ℕ) → Changes w w' a b → n ≤ a → n ≤ length w → take n w' ≡ take n w
take_kept {w} {w'} {a} n c h k =
    ext_get_or 0 (take n w') (take n w) (length-take-le n w' (omega (arith, c.long)) ∙ sym (length-take-le n w k)) (λ i l.
    let j : i < n = omega (arith, l, length-take-le n w' (omega (arith, c.long))) in
    get_or-take n w' i 0 j ∙ c.below i (omega arith) ∙ sym (get_or-take n w i 0 j))

pub ends_kept : {w w' : List ℕ} {d a b : ℕ} → Changes w w' a b → d * pairs_from ≤ a → EndsRoom w d → ends_in w' d ≡ ends_in w d
ends_kept {w} {w'} {d} c h r = ends_in_kept w w' d (take_kept (d * pairs_from) c h (omega (arith, r.long)))

-- one direction, by the words of another slice
pub same_words_lem : {w w' : List ℕ} {d : ℕ} → ((i : ℕ) → i < d * pieces_from → get_or w' i 0 ≡ get_or w i 0) → (a e : ℕ) → a < d → e < d → OneDirection w d a e → OneDirection w' d a e
same_words_lem {w} {w'} {d} f a e h k s =
    record {
      first = f a (omega arith) ∙ s.first;
      second = f e (omega arith) ∙ s.second;
      x = f (d + a * 2) (omega arith) ∙ s.x ∙ sym (f (d + e * 2) (omega arith));
      y = f (d + a * 2 + 1) (omega arith) ∙ s.y ∙ sym (f (d + e * 2 + 1) (omega arith));
    }

pub sorted_kept : {w w' : List ℕ} {d a b : ℕ} → Changes w w' a b → d * sort_keys_from ≤ a → TablesSorted w d → TablesSorted w' d
sorted_kept {w} {w'} {d} c h s =
    record {
      room = room_kept c s.room;
      order =
          record {
            order_in = λ p k. omega (arith, same p k, s.order.order_in p k);
            pos_in = λ e k. omega (arith, placed e k, s.order.pos_in e k);
            seat = λ e k. ap (order_at w' d) (placed e k) ∙ same (position_at w d e) (s.order.pos_in e k) ∙ s.order.seat e k;
            back = λ p k. ap (position_at w' d) (same p k) ∙ placed (order_at w d p) (s.order.order_in p k) ∙ s.order.back p k;
          };
    }
  where
    same : (p : ℕ) → p < d → order_at w' d p ≡ order_at w d p
    same p k = c.below (d * order_from + p) (omega arith)

    placed : (e : ℕ) → e < d → position_at w' d e ≡ position_at w d e
    placed e k = c.below (d * positions_from + e) (omega arith)

-- ---- one direction, bit for bit

module _ (w : List ℕ) (d : ℕ) (room : EndsRoom w d) where
  pub there_is : (e : ℕ) → e < d → get_or w e 0 ≡ 1 → There (ends_in w d) e
  there_is e h m = is_there (direction_is room e h ∙ sym (direction_toward w d e m))

  pub there_not : (e : ℕ) → e < d → (get_or w e 0 ≡ 1 → ⊥) → There (ends_in w d) e → ⊥
  unfolding there
  there_not e h m t =
      let z : false ≡ true = ap there (direction_absent w d e m ∙ sym (direction_is room e h)) ∙ t in
      let u : ◌≡◌ {A = ℕ} 0 1 = cc in
      omega arith

  pub like : (a e : ℕ) → a < d → e < d → get_or w a 0 ≡ 1 → get_or w e 0 ≡ 1 → get_or w (d + a * 2) 0 ≡ get_or w (d + e * 2) 0
      → get_or w (d + a * 2 + 1) 0 ≡ get_or w (d + e * 2 + 1) 0 → a < e → Like (ends_in w d) a e
  like a e i j p q x y h =
      record {
        lower = h;
        first = there_is a i p;
        second = there_is e j q;
        alike =
            direction_is room a i
            ∙ sym (direction_toward w d a p)
            ∙ (λ t. Toward (float (x t)) (float (y t)))
            ∙ direction_toward w d e q
            ∙ sym (direction_is room e j);
      }

-- an end of its predecessor's direction, and higher, is of its group
group_joined : (w : List ℕ) (d p : ℕ) → 0 < p → OneDirection w d (order_at w d (p - 1)) (order_at w d p) → order_at w d (p - 1) < order_at w d p
    → group_of w d p ≡ group_at w d (order_at w d (p - 1))
unfolding group_of alike_at
group_joined w d p h s l =
    let a = order_at w d (p - 1) in
    let e = order_at w d p in
    rw (
      lt-ltb 0 p h,
      eq-eqb (get_or w a 0) 1 s.first,
      eq-eqb (get_or w e 0) 1 s.second,
      eq-eqb (get_or w (d + a * 2) 0) (get_or w (d + e * 2) 0) s.x,
      eq-eqb (get_or w (d + a * 2 + 1) 0) (get_or w (d + e * 2 + 1) 0) s.y,
      lt-ltb a e l,
    )

-- ---- the turns of grouping

pub record Grouping (w₀ w : List ℕ) (d p m : ℕ) : Type 0 where
  pub within : p ≤ d
  pub runs : GroupRuns (ends_in w₀ d) (order_at w₀ d) (group_at w d) p
  pub whole : GroupOfDirection w₀ d (order_at w₀ d) (group_at w d) p
  pub own : ℕ → ℕ
  pub started : Started (ends_in w₀ d) (order_at w₀ d) (group_at w d) (cursor_at w d) (slot_at w d) own d p m
  pub frame : Changes w₀ w (d * groups_from) (d * heap_from)

pub grouping_start : (w : List ℕ) (d : ℕ) → Grouping w w d 0 0
grouping_start w d =
    record {
      within = omega arith;
      runs = runs_start (ends_in w d) (order_at w d) (group_at w d);
      whole = λ p q h k. absurd (omega arith);
      own = λ e. e;
      started = started_start (ends_in w d) (order_at w d) (group_at w d) (cursor_at w d) (slot_at w d) (λ e. e) d;
      frame = changes_none w (d * groups_from) (d * heap_from);
    }

pub grouping_stop : {w₀ w : List ℕ} {d p m : ℕ} → Grouping w₀ w d p m → d ≤ p → Groups w₀ w d m
grouping_stop {w₀} {w} {d} {p} {m} s h =
    let e : p ≡ d = omega (arith, s.within) in
    record {
      runs = subst (λ (n : ℕ). GroupRuns (ends_in w₀ d) (order_at w₀ d) (group_at w d) n) e s.runs;
      whole = subst (λ (n : ℕ). GroupOfDirection w₀ d (order_at w₀ d) (group_at w d) n) e s.whole;
      own = s.own;
      started = subst (λ (n : ℕ). Started (ends_in w₀ d) (order_at w₀ d) (group_at w d) (cursor_at w d) (slot_at w d) s.own d n m) e s.started;
      kept = s.frame;
    }

module _ {w₀ w : List ℕ} {d p m : ℕ} (z : TablesSorted w₀ d) (s : Grouping w₀ w d p m) where
  ends_same : ends_in w d ≡ ends_in w₀ d
  ends_same = ends_kept s.frame (omega arith) z.room

  order_same : (q : ℕ) → q < d → order_at w d q ≡ order_at w₀ d q
  order_same q h = s.frame.below (d * order_from + q) (omega arith)

  module _ (h : p < d) (g : ℕ) (grouped : (g ≡ group_of w d p) × Grouped w d p g) where
    abbrev e : ℕ
    e = order_at w d p

    abbrev e₀ : ℕ
    e₀ = order_at w₀ d p

    e_same : e ≡ e₀
    e_same = order_same p h

    pub grouping_in : e < d
    grouping_in = omega (arith, e_same, z.order.order_in p h)

    joins : (g ≡ p) ⊎ ((0 < p) × (g ≡ group_at w d (order_at w₀ d (p - 1))) × Like (ends_in w₀ d) (order_at w₀ d (p - 1)) e₀)
    joins = ⊎_elim
        (λ (x : g ≡ p). inl x)
        (λ (x : (0 < p) × (g ≡ group_at w d (order_at w d (p - 1))) × Like (ends_in w d) (order_at w d (p - 1)) e).
        let o = order_same (p - 1) (omega arith) in
        inr (
          x.0,
          x.1 ∙ ap (group_at w d) o,
          subst (λ (l : List End). Like l (order_at w₀ d (p - 1)) e₀) ends_same
              (subst (λ (v : ℕ). Like (ends_in w d) v e₀) o (subst (λ (v : ℕ). Like (ends_in w d) (order_at w d (p - 1)) v) e_same x.2)),
        ))
        grouped.1

    module _ (slot : ℕ) (slotted : Slotted w d p g m slot) (together : Together w₀ d (order_at w₀ d)) where
      -- the three words that are written
      abbrev w₁ : List ℕ
      w₁ = set w (d * groups_from + e) g

      abbrev w₂ : List ℕ
      w₂ = set w₁ (d * cursors_from + p) (p + owners)

      abbrev w₃ : List ℕ
      w₃ = set w₂ (d * slots_from + e) slot

      c₁ : Changes w w₁ (d * groups_from) (d * cursors_from)
      c₁ = changes_set w (d * groups_from + e) g (d * groups_from) (d * cursors_from) (omega arith) (omega (arith, grouping_in))

      c₂ : Changes w₁ w₂ (d * cursors_from) (d * slots_from)
      c₂ = changes_set w₁ (d * cursors_from + p) (p + owners) (d * cursors_from) (d * slots_from) (omega arith) (omega arith)

      c₃ : Changes w₂ w₃ (d * slots_from) (d * heap_from)
      c₃ = changes_set w₂ (d * slots_from + e) slot (d * slots_from) (d * heap_from) (omega arith) (omega (arith, grouping_in))

      long : d * end_room ≤ length w
      long = omega (arith, z.room.long, s.frame.long)

      frame : Changes w₀ w₃ (d * groups_from) (d * heap_from)
      frame =
          changes_then s.frame
          (changes_then (changes_wider (d * groups_from) (d * heap_from) (omega arith) (omega arith) c₁)
          (changes_then (changes_wider (d * groups_from) (d * heap_from) (omega arith) (omega arith) c₂) (changes_wider (d * groups_from) (d * heap_from) (omega arith) (omega arith) c₃)))

      group_here : group_at w₃ d e₀ ≡ g
      group_here =
          ap (group_at w₃ d) (sym e_same)
          ∙ c₃.below (d * groups_from + e) (omega (arith, grouping_in))
          ∙ c₂.below (d * groups_from + e) (omega (arith, grouping_in))
          ∙ get_or-set_same w (d * groups_from + e) g 0 (omega (arith, grouping_in, long))

      -- words of a table but one
      group_past : (x : ℕ) → x < d → (x ≡ e₀ → ⊥) → group_at w₃ d x ≡ group_at w d x
      group_past x i n =
          c₃.below (d * groups_from + x) (omega arith) ∙ c₂.below (d * groups_from + x) (omega arith) ∙ get_or-set_other w (d * groups_from + e) (d * groups_from + x) g 0 (λ q. n (omega (arith, q, e_same)))

      cursor_here : cursor_at w₃ d p ≡ p + owners
      cursor_here = c₃.below (d * cursors_from + p) (omega arith) ∙ get_or-set_same w₁ (d * cursors_from + p) (p + owners) 0 (omega (arith, long, c₁.long))

      cursor_past : (x : ℕ) → x < d → (x ≡ p → ⊥) → cursor_at w₃ d x ≡ cursor_at w d x
      cursor_past x i n =
          c₃.below (d * cursors_from + x) (omega arith)
          ∙ get_or-set_other w₁ (d * cursors_from + p) (d * cursors_from + x) (p + owners) 0 (λ q. n (omega (arith, q)))
          ∙ c₁.beyond (d * cursors_from + x) (omega arith)

      slot_here : slot_at w₃ d e₀ ≡ slot
      slot_here = ap (slot_at w₃ d) (sym e_same) ∙ get_or-set_same w₂ (d * slots_from + e) slot 0 (omega (arith, grouping_in, long, c₁.long, c₂.long))

      slot_past : (x : ℕ) → x < d → (x ≡ e₀ → ⊥) → slot_at w₃ d x ≡ slot_at w d x
      slot_past x i n =
          get_or-set_other w₂ (d * slots_from + e) (d * slots_from + x) slot 0 (λ q. n (omega (arith, q, e_same)))
          ∙ c₂.beyond (d * slots_from + x) (omega arith)
          ∙ c₁.beyond (d * slots_from + x) (omega arith)

      runs : GroupRuns (ends_in w₀ d) (order_at w₀ d) (group_at w₃ d) (p + 1)
      runs = runs_next (ends_in w₀ d) (order_at w₀ d) (position_at w₀ d) d p z.order h (group_at w d) (group_at w₃ d) g group_here group_past s.runs joins

      whole : GroupOfDirection w₀ d (order_at w₀ d) (group_at w₃ d) (p + 1)
      whole =
          whole_next (group_at w d) (group_at w₃ d) together h
          (λ q l. group_past (order_at w₀ d q) (z.order.order_in q (omega arith)) (λ x. omega (arith, z.order.back q (omega arith), z.order.back p h, ap (position_at w₀ d) x)))
          (λ t l. group_here ∙ grouped.0 ∙ follows (before l) t l) s.whole
        where
          -- position 0 has none before it
          before : order_at w₀ d (p - 1) < e₀ → 0 < p
          before l = ⊎_elim (λ (x : 0 < p). x) (λ (x : p ≤ 0). let y : p - 1 ≡ p = omega arith in absurd (omega (arith, ap (order_at w₀ d) y))) (below_or 0 p)

          follows : 0 < p → OneDirection w₀ d (order_at w₀ d (p - 1)) e₀ → order_at w₀ d (p - 1) < e₀ → group_of w d p ≡ group_at w d (order_at w₀ d (p - 1))
          follows i t l =
              let o = order_same (p - 1) (omega arith) in
              let u = same_words_lem (λ k j. s.frame.below k (omega arith)) (order_at w₀ d (p - 1)) e₀ (z.order.order_in (p - 1) (omega arith)) (z.order.order_in p h) t in
              group_joined w d p i (subst (λ (v : ℕ). OneDirection w d v e) (sym o) (subst (λ (v : ℕ). OneDirection w d (order_at w₀ d (p - 1)) v) (sym e_same) u)) (omega (arith, o, e_same, l)) ∙ ap (group_at w d) o

      present : There (ends_in w d) e → There (ends_in w₀ d) e₀
      present t = subst (λ (l : List End). There l e₀) ends_same (subst (λ (v : ℕ). There (ends_in w d) v) e_same t)

      absent : There (ends_in w₀ d) e₀ → There (ends_in w d) e
      absent t = subst (λ (v : ℕ). There (ends_in w d) v) (sym e_same) (subst (λ (l : List End). There l e₀) (sym ends_same) t)

      due : There (ends_in w₀ d) e₀ → p < g + owners → slot ≡ m
      due t i = slotted.due (absent t) i

      pub grouping_next : (m' : ℕ) → m' ≡ cond (eqb m slot) (m + 1) m → Grouping w₀ w₃ d (p + 1) m'
      grouping_next m' counted = ⊎_elim
          (λ (x : slot ≡ d).
          subst (λ (v : ℕ). Grouping w₀ w₃ d (p + 1) v) (sym (counted ∙ left (λ q. omega (arith, q, x, s.started.few))))
          (record {
            within = omega arith;
            runs = runs;
            whole = whole;
            own = s.own;
            started =
                started_none (ends_in w₀ d) (order_at w₀ d) (position_at w₀ d) d p z.order h (group_at w d) (group_at w₃ d) g group_here group_past s.runs joins (cursor_at w d)
                (cursor_at w₃ d) (slot_at w d) (slot_at w₃ d) s.own m slot cursor_here cursor_past slot_here slot_past s.started due x;
            frame = frame;
          }))
          (λ (x : (slot ≡ m) × There (ends_in w d) e × (p < g + owners)).
          subst (λ (v : ℕ). Grouping w₀ w₃ d (p + 1) v) (sym (counted ∙ taken x.0))
          (record {
            within = omega arith;
            runs = runs;
            whole = whole;
            own = changed s.own m e₀;
            started =
                started_one (ends_in w₀ d) (order_at w₀ d) (position_at w₀ d) d p z.order h (group_at w d) (group_at w₃ d) g group_here group_past s.runs joins (cursor_at w d)
                (cursor_at w₃ d) (slot_at w d) (slot_at w₃ d) s.own m slot cursor_here cursor_past slot_here slot_past s.started due x.0 (present x.1) x.2;
            frame = frame;
          }))
          slotted.one_of
        where
          left : (m ≡ slot → ⊥) → cond (eqb m slot) (m + 1) m ≡ m
          left n = rw (ne_eqb m slot n)

          taken : slot ≡ m → cond (eqb m slot) (m + 1) m ≡ m + 1
          taken q = rw (eq-eqb m slot (sym q))

-- what the test for an owner tells: the end at position p of group g is present, and one of the first in its group
module _ (w : List ℕ) (d : ℕ) (s : TablesSorted w d) (p : ℕ) (h : p < d) (g m : ℕ) where
  inside : order_at w d p < d
  inside = s.order.order_in p h

  pub slotted_present : get_or w (order_at w d p) 0 ≡ 1 → Slotted w d p g m (cond (ltb p (g + owners)) m d)
  slotted_present q = go (ltb p (g + owners)) refl
    where
      go : (b : Bool) → ltb p (g + owners) ≡ b → Slotted w d p g m (cond b m d)
      go true t = record { one_of = inr (refl, there_is w d s.room (order_at w d p) inside q, ltb-true p (g + owners) t); due = λ _ _. refl }
      go false t = record { one_of = inl refl; due = λ _ k. absurd (omega (arith, k, ltb-false p (g + owners) t)) }

  pub slotted_absent : (get_or w (order_at w d p) 0 ≡ 1 → ⊥) → Slotted w d p g m (cond (eqb (get_or w (order_at w d p) 0) 1) m d)
  slotted_absent n =
      subst (λ (b : Bool). Slotted w d p g m (cond b m d)) (sym (ne_eqb (get_or w (order_at w d p) 0) 1 n))
      (record { one_of = inl refl; due = λ t. absurd (there_not w d s.room (order_at w d p) inside n t) })

-- one more than m, if the end has the slot m
pub one_more : (b : Bool) (m d : ℕ) → m < d → m + bool_byte b ≡ cond (eqb m (cond b m d)) (m + 1) m
one_more true m d h = rw (eq-eqb m m refl)
one_more false m d h = rw (ne_eqb m d (λ e. omega arith)) (omega arith)

-- ---- the turns of looking for the next owner

pub record Looking (w : List ℕ) (d g from c : ℕ) : Type 0 where
  pub reached : from ≤ c
  pub passed : (q : ℕ) → from ≤ q → q < c → mark_at w d (order_at w d q) ≡ 0 → ⊥
