-- The least place below the root is the owner's first pair: the leaves are those of the free ends, each end's pair with the owner stands at its leaf, and the
-- order of an owner's pairs is that of the keys and then of the other ends.
use Prim.Native.Nat.{ℕ, ◌+◌, ◌-◌, ◌*◌, ◌^◌, ◌≤◌, ◌<◌, min, max}
use mathlib.Core.Path.{◌≡◌, refl, sym, ap, ap₂, ◌∙◌, subst}
use mathlib.Core.Bool.{Bool, true, false, cond, ◌&&◌, ◌||◌}
use mathlib.Core.List.{List}
use mathlib.Core.Logic.{◌⊎◌, inl, inr, ⊎_elim}
use native.Mathlib.Omega.{arith}
use native.Mathlib.Nat.{le_trans, le_of_eq, one-mul}
use lib.Dec.{leb, eqb}
use lib.Ieee.{Float}
use borrow.Author.Tests.{le-leb, ne_eqb, eqb-false}
use Rattle.rules.specs.Answers.{Direction}
use Rattle.rules.specs.Answers.{Absent, Toward}
use Rattle.rules.specs.Selecting.{End}
use Rattle.pair_bounds.specs.declared.Bounds.{Bounds}
use Rattle.pair_bounds.specs.Box.{empty_of, point_of}
use Rattle.pair_bounds.specs.Search.{place, least}
use Rattle.pair_bounds.proofs.Search.{place_same}
use Rattle.pair_laws.specs.Ranked.{RankedPair, candidates, busy, qualifies}
use Rattle.pair_laws.specs.Sets.{In, EndOf}
use Rattle.pair_laws.specs.Ends.{end_at, there, key_of, node_of}
use Rattle.pair_laws.proofs.Order.{and_left, and_right}
use Rattle.pair_laws.proofs.Laws.{in_candidates, candidates_in}
use Rattle.pair_laws.proofs.Ends.{key_sym}
use Rattle.pair_ends.specs.Ends.{direction_at, piece_at, ends_in}
use Rattle.pair_ends.proofs.Reading.{ends_in_placed}
use Rattle.pair_tree.specs.declared.Place.{Place}
use Rattle.pair_tree.specs.Places.{gone, none}
use Rattle.pair_tree.proofs.Flat.{same_or, below_or}
use Rattle.pair_index.specs.Nodes.{node_at}
use Rattle.pair_index.specs.Search.{pair_at, leaf_at, Finds}
use Rattle.pair_index.specs.Index.{box_of, leaf_of, LeavesPlaced, Indexed, Query, FirstPair, RankedFirst, KeyOf, Answers}
use Rattle.pair_index.proofs.Book.{to_book}
use Rattle.pair_index.proofs.Bounding.{left_out}
use Rattle.pair_index.proofs.Leaves.{least_le, least_is, toward_of, is_there, ends_length, direction_is, piece_is, there_below}
use Rattle.pair_index.proofs.Candidates.{Other, other, Made, in_order, under_all, strictly, key_under, place_below, min_under, min_apart, min_top}

-- ---- what a query finds

module _ {w : List ℕ} {d t height limit o : ℕ} (q : Query w d t height limit o) (ax ay : Float) (toward : Toward ax ay ≡ direction_at w d o)
    (rk ri : ℕ) (ri-small : ri ≤ gone)
    (found : place rk ri ≡ min (place limit gone) (least (leaf_at (direction_at w d) (piece_at w d) ax ay (piece_at w d o) (node_at w t)) height 1))
    (used : ℕ → Bool) (order pos : ℕ → ℕ) (z : LeavesPlaced order pos d (2 ^ height)) (k : Indexed w t (2 ^ height) (ends_in w d) used order) where
  abbrev base : ℕ
  base = 2 ^ height

  abbrev l : List End
  l = ends_in w d

  abbrev leaf : ℕ → ℕ
  leaf = leaf_at (direction_at w d) (piece_at w d) ax ay (piece_at w d o) (node_at w t)

  own_is : (end_at l o).piece ≡ piece_at w d o
  own_is = piece_is q.room o q.within

  own_way : (end_at l o).direction ≡ Toward ax ay
  own_way = direction_is q.room o q.within ∙ sym toward

  small : (e : ℕ) → e < d → e < gone
  small e h = omega (arith, q.room.few)

  key_is : (e : ℕ) → e < d → key_of (Toward ax ay) (direction_at w d e) ≡ key_of (end_at l o).direction (end_at l e).direction
  key_is e h = ap₂ key_of (sym own_way) (sym (direction_is q.room e h))

  -- the leaf of a free end of another piece
  leaf_free : (e : ℕ) → used e ≡ false → there (end_at l e).direction ≡ true → ((end_at l e).piece ≡ (end_at l o).piece → ⊥)
      → leaf (base + pos e) ≡ place (key_of (end_at l o).direction (end_at l e).direction) e
  unfolding leaf_at pair_at
  leaf_free e f p n =
      let i = there_below q.room e p in
      let v = toward_of (end_at l e).direction p in
      at (node_at w t (base + pos e))
      (k.leaves (pos e) (z.within e i)
      ∙ ap (leaf_of l used) (z.seat e i)
      ∙ left_out (used e) empty_of (box_of (end_at l e).direction e) f
      ∙ ap (λ (a : Direction). box_of a e) v.2) i
    where
      at : {x y : Float} (b : Bounds) → b ≡ point_of x y e → e < d
          → cond (eqb b.first gone) none
          (cond (eqb (piece_at w d b.first) (piece_at w d o)) none (place (key_of (Toward ax ay) (direction_at w d b.first)) b.first))
          ≡ place (key_of (end_at l o).direction (end_at l e).direction) e
      at b g i =
          rw (g, ne_eqb e gone (λ x. omega (arith, x, small e i)), ne_eqb (piece_at w d e) (piece_at w d o) (λ x. n (piece_is q.room e i ∙ x ∙ sym own_is)))
          (ap (λ (x : ℕ). place x e) (key_is e i))

  -- a leaf that counts is that of a free end of another piece
  record Counts (p : ℕ) : Type 0 where
    pub free : used (order p) ≡ false
    pub present : there (end_at l (order p)).direction ≡ true
    pub differs : (end_at l (order p)).piece ≡ (end_at l o).piece → ⊥
    pub within : order p < d
    pub value : leaf (base + p) ≡ place (key_of (end_at l o).direction (end_at l (order p)).direction) (order p)

  leaf_which : (p : ℕ) → p < base → (leaf (base + p) ≡ none) ⊎ Counts p
  unfolding leaf_at pair_at
  leaf_which p h = go (node_at w t (base + p)) refl (used (order p)) (end_at l (order p)).direction refl refl (k.leaves p h)
    where
      inner : (b : Bounds) → node_at w t (base + p) ≡ b → b.first ≡ order p → used (order p) ≡ false → there (end_at l (order p)).direction ≡ true → order p < d
          → (c : Bool) → eqb (piece_at w d (order p)) (piece_at w d o) ≡ c → (leaf (base + p) ≡ none) ⊎ Counts p
      inner b e f u v i true x =
          inl (ap (λ (n : Bounds). cond (eqb n.first gone) none (pair_at (direction_at w d) (piece_at w d) ax ay (piece_at w d o) n.first)) e
          ∙ rw (f, ne_eqb (order p) gone (λ y. omega (arith, y, small (order p) i)), x))
      inner b e f u v i false x =
          inr (record {
            free = u;
            present = v;
            differs = λ y. eqb-false (piece_at w d (order p)) (piece_at w d o) x (sym (piece_is q.room (order p) i) ∙ y ∙ own_is);
            within = i;
            value =
                ap (λ (n : Bounds). cond (eqb n.first gone) none (pair_at (direction_at w d) (piece_at w d) ax ay (piece_at w d o) n.first)) e
                ∙ rw (f, ne_eqb (order p) gone (λ y. omega (arith, y, small (order p) i)), x) (ap (λ (y : ℕ). place y (order p)) (key_is (order p) i));
          })

      empty : (b : Bounds) → node_at w t (base + p) ≡ b → b ≡ empty_of → leaf (base + p) ≡ none
      empty b e f = ap (λ (n : Bounds). cond (eqb n.first gone) none (pair_at (direction_at w d) (piece_at w d) ax ay (piece_at w d o) n.first)) (e ∙ f)

      go : (b : Bounds) → node_at w t (base + p) ≡ b → (u : Bool) (a : Direction) → used (order p) ≡ u → (end_at l (order p)).direction ≡ a
          → node_at w t (base + p) ≡ cond u empty_of (box_of a (order p)) → (leaf (base + p) ≡ none) ⊎ Counts p
      go b e true a f g r = inl (empty b e (sym e ∙ r))
      go b e false Absent f g r = inl (empty b e (sym e ∙ r))
      go b e false (Toward x y) f g r =
          inner b e (ap (λ (n : Bounds). n.first) (sym e ∙ r)) f (is_there g) (there_below q.room (order p) (is_there g))
          (eqb (piece_at w d (order p)) (piece_at w d o)) refl

  -- no candidate of the owner is before what is found
  at_most : (p : RankedPair) (e : ℕ) → Other l limit used o p e → place rk ri ≤ place p.key e
  at_most p e h =
      let i = there_below q.room e h.present in
      let s = leaf_free e h.free h.present h.differs in
      let m = least_le leaf height 1 (base + pos e) (omega (arith, one-mul base)) (omega (arith, z.within e i)) in
      min_under (place rk ri) (place limit gone) _ (place p.key e) found (le_trans m (le_of_eq (s ∙ ap (λ (x : ℕ). place x e) (sym h.keyed))))

  -- and what is found is a leaf's, if it is no longer the limit
  leaf_found : (place rk ri ≡ place limit gone → ⊥) → (p : ℕ) × (p < base) × (place rk ri ≡ leaf (base + p))
  leaf_found n =
      let m = least_is leaf height 1 in
      go m.0 (omega (arith, m.1, one-mul base)) (omega (arith, m.2)) (min_apart (place rk ri) (place limit gone) _ found n ∙ m.3)
    where
      go : (x : ℕ) → base ≤ x → x < 2 * base → place rk ri ≡ leaf x → (p : ℕ) × (p < base) × (place rk ri ≡ leaf (base + p))
      go x a b e = (x - base, omega arith, e ∙ ap leaf back)
        where
          back : x ≡ base + (x - base)
          back = omega arith

  counted : (place rk ri ≡ place limit gone → ⊥) → (p : ℕ) × Counts p × (rk ≡ key_of (end_at l o).direction (end_at l (order p)).direction) × (ri ≡ order p)
  counted n = let t = leaf_found n in go t.0 t.2 (leaf_which t.0 t.1)
    where
      go : (p : ℕ) → place rk ri ≡ leaf (base + p) → (leaf (base + p) ≡ none) ⊎ Counts p
          → (p : ℕ) × Counts p × (rk ≡ key_of (end_at l o).direction (end_at l (order p)).direction) × (ri ≡ order p)
      go p e (inl x) =
          absurd (clash (place rk ri) (place limit gone) none (e ∙ x) (min_top (place rk ri) (place limit gone) _ found) (under_all limit gone q.limited (omega arith)))
        where
          clash : (a b c : ℕ) → a ≡ c → a ≤ b → b < c → ⊥
          clash a b c x y v = omega arith
      go p e (inr c) =
          let s =
          place_same rk ri (key_of (end_at l o).direction (end_at l (order p)).direction) (order p) (omega arith) (omega (arith, small (order p) c.within))
          (e ∙ c.value) in
          (p, c, s.0, s.1)

  none_left : ri ≡ gone → (p : RankedPair) → In p (candidates (node_of l) limit) → busy used p ≡ false → EndOf o p → ⊥
  none_left g p m f y =
      let c = other l limit used o p m f y in
      let a = at_most p c.0 c.1 in
      let i = there_below q.room c.0 c.1.present in
      let b = place_below p.key c.0 limit c.1.limited (small c.0 i) in
      let t = counted (λ e. clash (place rk ri) (place limit gone) (place p.key c.0) a b e) in
      omega (arith, g, t.3, small (order t.0) t.1.within)
    where
      clash : (a b c : ℕ) → a ≤ c → c < b → a ≡ b → ⊥
      clash a b c x y v = omega arith

  -- where an end is found
  record Partner : Type 0 where
    pub free : used ri ≡ false
    pub present : there (end_at l ri).direction ≡ true
    pub differs : (end_at l ri).piece ≡ (end_at l o).piece → ⊥
    pub keyed : rk ≡ key_of (end_at l o).direction (end_at l ri).direction
    pub below : ri < d
    pub limited : rk ≤ limit

  partner : (ri ≡ gone → ⊥) → Partner
  partner g =
      let t = counted (λ e. g (place_same rk ri limit gone (omega arith) (omega arith) e).1) in
      let c = t.1 in
      let back : order t.0 ≡ ri = sym t.3 in
      record {
        free = sym (ap used back) ∙ c.free;
        present = sym (ap (λ (x : ℕ). there (end_at l x).direction) back) ∙ c.present;
        differs = λ x. c.differs (ap (λ (y : ℕ). (end_at l y).piece) back ∙ x);
        keyed = t.2 ∙ ap (λ (x : ℕ). key_of (end_at l o).direction (end_at l x).direction) back;
        below = omega (arith, t.3, c.within);
        limited = key_under rk ri limit (min_top (place rk ri) (place limit gone) _ found);
      }

  -- an end is not its own partner
  pub apart_from : (ri ≡ gone → ⊥) → o ≤ ri → o < ri
  apart_from g h =
      ⊎_elim
      (λ (e : ri ≡ o). absurd ((partner g).differs (ap (λ (y : ℕ). (end_at l y).piece) e)))
      (λ (e : ri ≡ o → ⊥). strictly o ri h e)
      (same_or ri o)

  pub first_none : (b : RankedPair) → ri ≡ gone → b.j ≡ 0 → RankedFirst (node_of l) limit used o b
  first_none b g e =
      record {
        nothing = λ _. none_left g;
        member = λ h. absurd (omega arith);
        free = λ h. absurd (omega arith);
        owned = λ h. absurd (omega arith);
        first = λ h. absurd (omega arith);
      }

  pub found_below : (ri ≡ gone → ⊥) → ri < d
  found_below g = (partner g).below

  pub first_some : (b : RankedPair) → (ri ≡ gone → ⊥) → Made rk o ri b → used o ≡ false → RankedFirst (node_of l) limit used o b
  unfolding qualifies busy
  first_some b g m fo =
      record {
        nothing =
            λ e. absurd (⊎_elim
            (λ (y : (b.i ≡ ri) × (b.j ≡ o) × (ri < o)). absurd (omega (arith, y.1, y.2)))
            (λ (y : (b.i ≡ o) × (b.j ≡ ri) × (o < ri)). absurd (omega (arith, y.1, y.2)))
            m.1);
        member = λ _. member m.1;
        free = λ _. free m.1;
        owned =
            λ _. ⊎_elim
            (λ (y : (b.i ≡ ri) × (b.j ≡ o) × (ri < o)). inr (sym y.1))
            (λ (y : (b.i ≡ o) × (b.j ≡ ri) × (o < ri)). inl (sym y.0))
            m.1;
        first =
            λ _ p y f v.
            let c = other l limit used o p y f v in
            in_order rk o ri c.0 b p m c.1.lower c.1.which (small ri s.below) (small c.0 (there_below q.room c.0 c.1.present))
            (at_most p c.0 c.1);
      }
    where
      s : Partner
      s = partner g

      here : there (end_at l o).direction ≡ true
      here = is_there own_way

      may_is : (i j : ℕ) → there (end_at l i).direction ≡ true → there (end_at l j).direction ≡ true → ((end_at l i).piece ≡ (end_at l j).piece → ⊥) → (node_of l).may i j ≡ true
      may_is i j x y n = rw (x, y, ne_eqb (end_at l i).piece (end_at l j).piece n)

      both : (x y : Bool) → x ≡ true → y ≡ true → (x && y) ≡ true
      both x y e f = rw (e, f)

      ok : (i j : ℕ) → (node_of l).may i j ≡ true → ((node_of l).may i j && leb b.key limit) ≡ true
      ok i j h = both _ _ h (le-leb b.key limit (omega (arith, s.limited, m.0)))

      member : ((b.i ≡ ri) × (b.j ≡ o) × (ri < o)) ⊎ ((b.i ≡ o) × (b.j ≡ ri) × (o < ri)) → In b (candidates (node_of l) limit)
      member (inl (u, v, x)) =
          candidates_in (node_of l) limit b
          (record {
            lower = omega arith;
            below = omega (arith, q.within, ends_length q.room);
            keyed =
                m.0
                ∙ s.keyed
                ∙ key_sym (end_at l o).direction (end_at l ri).direction
                ∙ ap₂ (λ (i j : ℕ). key_of (end_at l i).direction (end_at l j).direction) (sym u) (sym v);
          })
          (ok b.i b.j (ap₂ (node_of l).may u v ∙ may_is ri o s.present here s.differs))
      member (inr (u, v, x)) =
          candidates_in (node_of l) limit b
          (record {
            lower = omega arith;
            below = omega (arith, s.below, ends_length q.room);
            keyed = m.0 ∙ s.keyed ∙ ap₂ (λ (i j : ℕ). key_of (end_at l i).direction (end_at l j).direction) (sym u) (sym v);
          })
          (ok b.i b.j (ap₂ (node_of l).may u v ∙ may_is o ri here s.present (λ n. s.differs (sym n))))

      neither : (x y : Bool) → x ≡ false → y ≡ false → (x || y) ≡ false
      neither x y e f = rw (e, f)

      free : ((b.i ≡ ri) × (b.j ≡ o) × (ri < o)) ⊎ ((b.i ≡ o) × (b.j ≡ ri) × (o < ri)) → (used b.i || used b.j) ≡ false
      free (inl (u, v, x)) = neither _ _ (ap used u ∙ s.free) (ap used v ∙ fo)
      free (inr (u, v, x)) = neither _ _ (ap used u ∙ fo) (ap used v ∙ s.free)

-- an absent end has no pair
pub first_absent : {w : List ℕ} {d t height limit o : ℕ} → Query w d t height limit o → Absent ≡ direction_at w d o → (b : RankedPair) → b.j ≡ 0 → (used : ℕ → Bool)
    → RankedFirst (node_of (ends_in w d)) limit used o b
unfolding qualifies there
first_absent {w} {d} {t} {height} {limit} {o} q e b j used =
    record {
      nothing =
          λ _ p m g y.
          let c = in_candidates (node_of (ends_in w d)) limit p m in
          let may = and_left ((node_of (ends_in w d)).may p.i p.j) (leb p.key limit) c.1 in
          let pi = and_left (there (end_at (ends_in w d) p.i).direction) _ may in
          let pj = and_left (there (end_at (ends_in w d) p.j).direction) _ (and_right (there (end_at (ends_in w d) p.i).direction) _ may) in
          ⊎_elim (λ (x : o ≡ p.i). gone_from x pi) (λ (x : o ≡ p.j). gone_from x pj) y;
      member = λ h. absurd (omega arith);
      free = λ h. absurd (omega arith);
      owned = λ h. absurd (omega arith);
      first = λ h. absurd (omega arith);
    }
  where
    gone_from : {x : ℕ} → o ≡ x → there (end_at (ends_in w d) x).direction ≡ true → ⊥
    gone_from {x} y h =
        let a : Absent ≡ (end_at (ends_in w d) o).direction = e ∙ sym (direction_is q.room o q.within) in
        let n : there (end_at (ends_in w d) o).direction ≡ true = ap (λ (v : ℕ). there (end_at (ends_in w d) v).direction) y ∙ h in
        let z : false ≡ true = ap there a ∙ n in
        let u : ◌≡◌ {A = ℕ} 0 1 = cc in
        omega arith

-- ---- the answers

in_book : {w : List ℕ} {d t height k o : ℕ} {limit : Float} → Query w d t height k o → KeyOf limit k → {used : ℕ → Bool} {b : RankedPair}
    → RankedFirst (node_of (ends_in w d)) k used o b → FirstPair limit (ends_in w d) used o b
in_book {w} {d} q y r = to_book y (ends_in_placed w d (omega (arith, q.room.long))) r

pub answers_absent : {w : List ℕ} {d t height limit o : ℕ} → Query w d t height limit o → Absent ≡ direction_at w d o
    → Answers w d t height limit o (record { key = 0; i = 0; j = 0 })
answers_absent q e = record { first = λ used order pos z k f limit y. in_book q y (first_absent q e (record { key = 0; i = 0; j = 0 }) refl used); i_below = omega (arith, q.within); j_below = omega (arith, q.within) }

module _ {w : List ℕ} {d t height limit o : ℕ} (q : Query w d t height limit o) (ax ay : Float) (toward : Toward ax ay ≡ direction_at w d o) (own : ℕ)
    (own_is : own ≡ piece_at w d o) (r : Place) (small : r.tie ≤ gone) (found : Finds w d t ax ay own height 1 (record { key = limit; tie = gone }) r) where
  least_found : place r.key r.tie ≡ min (place limit gone) (least (leaf_at (direction_at w d) (piece_at w d) ax ay (piece_at w d o) (node_at w t)) height 1)
  least_found =
      subst (λ (x : ℕ). place r.key r.tie ≡ min (place limit gone) (least (leaf_at (direction_at w d) (piece_at w d) ax ay x (node_at w t)) height 1)) own_is found

  below : (r.tie ≡ gone → ⊥) → r.tie < d
  below g = found_below q ax ay toward r.key r.tie small least_found q.used q.order q.pos q.placed q.indexed g

  pub answers_none : r.tie ≡ gone → Answers w d t height limit o (record { key = 0; i = 0; j = 0 })
  answers_none g =
      record {
        first =
            λ used order pos z k f limit y.
            in_book q y (first_none q ax ay toward r.key r.tie small least_found used order pos z k (record { key = 0; i = 0; j = 0 }) g refl);
        i_below = omega (arith, q.within);
        j_below = omega (arith, q.within);
      }

  -- the end found is the lower one, or the upper
  made : (r.tie ≡ gone → ⊥) → (i j : ℕ) → i ≡ min r.tie o → j ≡ max r.tie o → Made r.key o r.tie (record { key = r.key; i = i; j = j })
  made g i j e f = (
    refl,
    ⊎_elim
        (λ (h : r.tie < o). inl (omega arith, omega arith, h))
        (λ (h : o ≤ r.tie).
        let k : o < r.tie = apart_from q ax ay toward r.key r.tie small least_found q.used q.order q.pos q.placed q.indexed g h in
        inr (omega arith, omega arith, k))
        (below_or r.tie o),
  )

  pub answers_found : (r.tie ≡ gone → ⊥) → (i j : ℕ) → i ≡ min r.tie o → j ≡ max r.tie o → Answers w d t height limit o (record { key = r.key; i = i; j = j })
  answers_found g i j e f =
      record {
        first =
            λ used order pos z k f' limit y.
            in_book q y
            (first_some q ax ay toward r.key r.tie small least_found used order pos z k (record { key = r.key; i = i; j = j }) g (made g i j e f) f');
        i_below = omega (arith, below g, q.within);
        j_below = omega (arith, below g, q.within);
      }

  pub upper_some : (r.tie ≡ gone → ⊥) → (j : ℕ) → j ≡ max r.tie o → 0 < j
  upper_some g j f =
      ⊎_elim
      (λ (h : r.tie < o). omega arith)
      (λ (h : o ≤ r.tie).
      let k : o < r.tie = apart_from q ax ay toward r.key r.tie small least_found q.used q.order q.pos q.placed q.indexed g h in
      omega arith)
      (below_or r.tie o)
