-- The steps of the search, on plain values: at a leaf the pair with its end is taken if it is first; a node whose bound is at or after the best so far is passed
-- over; where the pair with a node's first end has the place of the node's bound, no other pair below is before it; and otherwise both children are searched,
-- in either order.
use Prim.Native.Nat.{ℕ, zero, suc, ◌+◌, ◌-◌, ◌*◌, ◌^◌, ◌≤◌, ◌<◌, min}
use mathlib.Core.Path.{◌≡◌, sym, ap, ◌∙◌}
use mathlib.Core.Bool.{Bool, true, false, cond, ◌&&◌}
use mathlib.Core.List.{List}
use mathlib.Core.Logic.{◌⊎◌, inl, inr, ⊎_elim}
use native.Mathlib.Nat.{le_trans, le_of_eq, lt_irrefl, mul_assoc, add-mul, le-mul_of_pos_right, pow-succ'}
use native.Mathlib.Omega.{arith}
use lib.Dec.{ltb, eqb}
use lib.ListN.{get_or}
use lib.Pow.{pow_pos}
use lib.Ieee.{Float}
use borrow.Author.Tests.{ltb-true, ltb-false, eqb-true, eq-eqb, ne_eqb}
use Rattle.rules.specs.Answers.{Direction}
use Rattle.rules.specs.Answers.{Toward}
use Rattle.pair_laws.specs.Ends.{key_of}
use Rattle.pair_bounds.specs.declared.Bounds.{Bounds}
use Rattle.pair_bounds.specs.Box.{lower_of}
use Rattle.pair_bounds.specs.Search.{place, least}
use Rattle.pair_bounds.proofs.Search.{place_same, at_leaf, at_node, bounded as bounded_by}
use Rattle.float_order.specs.Key.{low_key}
use Rattle.pair_ends.specs.Ends.{direction_at, piece_at}
use Rattle.pair_tree.specs.Places.{gone, none}
use Rattle.pair_index.specs.Nodes.{node_at, Has}
use Rattle.pair_index.specs.Search.{Built, pointed, settled_at, bound_of, round_at, pair_at, leaf_at, Searchable}
use Rattle.pair_index.proofs.Bounding.{under_none, chosen, left_out, sound, first_in, first_le, bound_some, leaf_some, bounded, first_under}

-- ---- room for the nodes

inside : (n h z : ℕ) → (n + 1) * 2 ^ h ≤ z → n < z
inside n h z k = let l = le-mul_of_pos_right (n + 1) (pow_pos h) in omega arith

double : (h : ℕ) → 0 < h → 2 ^ h ≡ 2 * 2 ^ (h - 1)
double zero p = absurd (lt_irrefl 0 p)
double (suc h) p = pow-succ' 2 h ∙ ap (λ (x : ℕ). 2 * 2 ^ x) (omega arith)

spread : (n q z : ℕ) → (n + 1) * (2 * q) ≤ z → (2 * n + 1 + 1) * q ≤ z
spread n q z k = le_trans (le_of_eq (ap (λ (x : ℕ). x * q) again ∙ mul_assoc (n + 1) 2 q)) k
  where
    again : 2 * n + 1 + 1 ≡ (n + 1) * 2
    again = omega arith

room_right : (n h z : ℕ) → 0 < h → (n + 1) * 2 ^ h ≤ z → (2 * n + 1 + 1) * 2 ^ (h - 1) ≤ z
room_right n h z p k = spread n (2 ^ (h - 1)) z (rw (← double h p) k)

room_left : (n h z : ℕ) → 0 < h → (n + 1) * 2 ^ h ≤ z → (2 * n + 1) * 2 ^ (h - 1) ≤ z
room_left n h z p k = le_trans (less (2 * n + 1) (2 ^ (h - 1))) (room_right n h z p k)
  where
    less : (a q : ℕ) → a * q ≤ (a + 1) * q
    less a q = let e = add-mul a 1 q in omega arith

one_less : (h : ℕ) → suc h - 1 ≡ h
one_less h = omega arith

-- ---- whether a node's directions are one

module _ (w : List ℕ) (t n : ℕ) where
  pub point_first : (get_or w (t + 5 * n) 0 ≡ get_or w (t + 5 * n + 2) 0 → ⊥) → eqb (get_or w (t + 5 * n) 0) (get_or w (t + 5 * n + 2) 0) ≡ pointed w t n
  unfolding pointed
  point_first h = ne_eqb _ _ h ∙ ap (λ (b : Bool). b && eqb (get_or w (t + 5 * n + 1) 0) (get_or w (t + 5 * n + 3) 0)) (sym (ne_eqb _ _ h))

  pub point_second : get_or w (t + 5 * n) 0 ≡ get_or w (t + 5 * n + 2) 0 → eqb (get_or w (t + 5 * n + 1) 0) (get_or w (t + 5 * n + 3) 0) ≡ pointed w t n
  unfolding pointed
  point_second h = ap (λ (b : Bool). b && eqb (get_or w (t + 5 * n + 1) 0) (get_or w (t + 5 * n + 3) 0)) (sym (eq-eqb _ _ h))

  module _ (d : ℕ) (ax ay : Float) (own e : ℕ) where
    pub settled_one : {v : ℕ} {b : Bool} → v ≡ pair_at (direction_at w d) (piece_at w d) ax ay own e → b ≡ pointed w t n → b ≡ true → v ≡ settled_at w d t ax ay own n e
    unfolding settled_at
    settled_one p q r = p ∙ ap (λ (z : Bool). cond z (pair_at (direction_at w d) (piece_at w d) ax ay own e) none) (sym r ∙ q)

    pub settled_none : {v : ℕ} {b : Bool} → v ≡ none → b ≡ pointed w t n → b ≡ false → v ≡ settled_at w d t ax ay own n e
    unfolding settled_at
    settled_none p q r = p ∙ ap (λ (z : Bool). cond z (pair_at (direction_at w d) (piece_at w d) ax ay own e) none) (sym r ∙ q)

    pub settled_either : {v : ℕ} → v ≡ settled_at w d t ax ay own n e → (v ≡ none) ⊎ (v ≡ pair_at (direction_at w d) (piece_at w d) ax ay own e)
    unfolding settled_at
    settled_either {v} p = go (pointed w t n) p
      where
        go : (b : Bool) → v ≡ cond b (pair_at (direction_at w d) (piece_at w d) ax ay own e) none → (v ≡ none) ⊎ (v ≡ pair_at (direction_at w d) (piece_at w d) ax ay own e)
        go true q = inr q
        go false q = inl q

-- ---- what the search asks, at a node and at its children

module _ {w : List ℕ} {d t : ℕ} {ax ay : Float} {h n : ℕ} (r : Searchable w d t ax ay h n) where
  abbrev N : ℕ → Bounds
  N = node_at w t

  few : d ≤ gone
  few = omega (arith, r.room.few)

  pub has : Has w t n
  has =
      record {
        inside = (let i = inside n h r.nodes r.within in omega (arith, r.inside));
        sound = sound N (direction_at w d) d few h n r.built;
      }

  pub first_below : ((N n).first ≡ gone → ⊥) → (N n).first < d
  first_below g = ⊎_elim (λ (e : (N n).first ≡ gone). absurd (g e)) (λ (e : (N n).first < d). e) (first_in N (direction_at w d) d few h n r.built)

  pub ready_left : 0 < h → Searchable w d t ax ay (h - 1) (2 * n)
  ready_left p =
      record {
        room = r.room;
        nodes = r.nodes;
        inside = r.inside;
        within = room_left n h r.nodes p r.within;
        built = go h p r.built;
        x_finite = r.x_finite;
        y_finite = r.y_finite;
        note = r.note;
        own_round = r.own_round;
        all_round = r.all_round;
      }
    where
      go : (h : ℕ) → 0 < h → Built N (direction_at w d) d h n → Built N (direction_at w d) d (h - 1) (2 * n)
      go zero p b = absurd (lt_irrefl 0 p)
      go (suc h) p b = unfold Built in rw (one_less h) b.1

  pub ready_right : 0 < h → Searchable w d t ax ay (h - 1) (2 * n + 1)
  ready_right p =
      record {
        room = r.room;
        nodes = r.nodes;
        inside = r.inside;
        within = room_right n h r.nodes p r.within;
        built = go h p r.built;
        x_finite = r.x_finite;
        y_finite = r.y_finite;
        note = r.note;
        own_round = r.own_round;
        all_round = r.all_round;
      }
    where
      go : (h : ℕ) → 0 < h → Built N (direction_at w d) d h n → Built N (direction_at w d) d (h - 1) (2 * n + 1)
      go zero p b = absurd (lt_irrefl 0 p)
      go (suc h) p b = unfold Built in rw (one_less h) b.2

  -- ---- what each way out gives

  module _ (own : ℕ) where
    abbrev pairs : ℕ → ℕ
    pairs = pair_at (direction_at w d) (piece_at w d) ax ay own

    abbrev leaf : ℕ → ℕ
    leaf = leaf_at (direction_at w d) (piece_at w d) ax ay own N

    bound_under : bound_of (round_at w d) ax ay (N n) ≤ least leaf h n
    bound_under =
        bounded_by (λ m. bound_of (round_at w d) ax ay (N m)) leaf h n
        (bounded N (direction_at w d) d few (round_at w d) (piece_at w d) ax ay own r.x_finite r.y_finite (r.own_round, r.all_round) h n r.built)

    -- the node is passed over
    pub passed_over : (a b : ℕ) → a ≡ bound_of (round_at w d) ax ay (N n) → b ≤ a → b ≡ min b (least leaf h n)
    passed_over a b e l = omega (arith, bound_under)

    -- both children, the left one first or the right one
    pub both_ways : (a b c : ℕ) → 0 < h → b ≡ min a (least leaf (h - 1) (2 * n)) → c ≡ min b (least leaf (h - 1) (2 * n + 1)) → c ≡ min a (least leaf h n)
    both_ways a b c p q z = omega (arith, at_node leaf h n p)

    pub both_turned : (a b c : ℕ) → 0 < h → b ≡ min a (least leaf (h - 1) (2 * n + 1)) → c ≡ min b (least leaf (h - 1) (2 * n)) → c ≡ min a (least leaf h n)
    both_turned a b c p q z = omega (arith, at_node leaf h n p)

    -- a bound that is before some place is that of an end
    module _ (k i l j : ℕ) (ki : i ≤ gone) (lj : (l ≤ gone) × (j ≤ gone)) (e : place k i ≡ bound_of (round_at w d) ax ay (N n)) (s : place k i < place l j) where
      pub some_end : (N n).first ≡ gone → ⊥
      unfolding bound_of
      some_end g = clash (place k i) (place l j) none (e ∙ chosen _ _ _ (eq-eqb (N n).first gone g)) s (under_none l j lj.0 lj.1)
        where
          clash : (a b c : ℕ) → a ≡ c → a < b → b ≤ c → ⊥
          clash a b c p q r = omega arith

      pub tie_is : i ≡ (N n).first
      tie_is =
          (place_same k i (low_key (lower_of (round_at w d) (N n) ax ay)) (N n).first (omega arith) (omega (arith, first_le N (direction_at w d) d few h n r.built))
          (e ∙ bound_some N (direction_at w d) d few (round_at w d) (piece_at w d) ax ay own (N n) some_end)).1

      pub tie_below : i < d
      tie_below = omega (arith, tie_is, first_below some_end)

      -- at a leaf
      pub leaf_pair : h ≡ 0 → (v : ℕ) → v ≡ pairs i → v ≡ least leaf h n
      leaf_pair z v p =
          p
          ∙ ap pairs tie_is
          ∙ sym (at_leaf leaf h n z ∙ leaf_some N (direction_at w d) d few (round_at w d) (piece_at w d) ax ay own n some_end)

      -- the pair with the first end is at the bound
      pub at_bound : (v : ℕ) → (v ≡ none) ⊎ (v ≡ pairs i) → v ≡ place k i → v ≡ min (place l j) (least leaf h n)
      at_bound v (inl p) q = absurd (clash (place k i) (place l j) none v p q s (under_none l j lj.0 lj.1))
        where
          clash : (a b c v : ℕ) → v ≡ c → v ≡ a → a < b → b ≤ c → ⊥
          clash a b c v p q r s = omega arith
      at_bound v (inr p) q =
          meet v (place k i) (place l j) (bound_of (round_at w d) ax ay (N n)) (pairs (N n).first) (least leaf h n) q e (p ∙ ap pairs tie_is) bound_under
          (first_under N (direction_at w d) d few (round_at w d) (piece_at w d) ax ay own h n r.built some_end) s
        where
          meet : (v a b c p m : ℕ) → v ≡ a → a ≡ c → v ≡ p → c ≤ m → m ≤ p → a < b → v ≡ min b m
          meet v a b c p m x y z u o s = omega arith

-- ---- what is worked out at a node, and of a pair

module _ (r : Bool) (ax ay : Float) (b b' : Bounds) (e : b ≡ b') where
  pub bound_none : (v : ℕ) → b.first ≡ gone → v ≡ none → v ≡ bound_of r ax ay b'
  unfolding bound_of
  bound_none v g p = p ∙ sym (chosen _ _ _ (eq-eqb b'.first gone (sym (ap (λ (x : Bounds). x.first) e) ∙ g)))

  pub bound_is : (m : Float) (k : ℕ) → (b.first ≡ gone → ⊥) → m ≡ lower_of r b ax ay → k ≡ low_key m → place k b.first ≡ bound_of r ax ay b'
  unfolding bound_of
  bound_is m k g p q =
      ap (λ (x : ℕ). place x b.first) (q ∙ ap low_key p) ∙ sym (left_out _ _ _ (ne_eqb b.first gone g)) ∙ ap (bound_of r ax ay) e

module _ (way : ℕ → Direction) (piece : ℕ → ℕ) (ax ay : Float) (own e : ℕ) where
  pub pair_own : (v : ℕ) → piece e ≡ own → v ≡ none → v ≡ pair_at way piece ax ay own e
  unfolding pair_at
  pair_own v g p = p ∙ sym (chosen _ _ _ (eq-eqb (piece e) own g))

  pub pair_other : (x : Direction) (k : ℕ) → (piece e ≡ own → ⊥) → x ≡ way e → k ≡ key_of (Toward ax ay) x → place k e ≡ pair_at way piece ax ay own e
  unfolding pair_at
  pair_other x k g p q =
      ap (λ (z : ℕ). place z e) (q ∙ ap (key_of (Toward ax ay)) p) ∙ sym (left_out _ _ _ (ne_eqb (piece e) own g))

-- what the tests say
pub test_before : (a b : ℕ) {z : Bool} → z ≡ ltb a b → z ≡ true → a < b
test_before a b p q = ltb-true a b (sym p ∙ q)

pub test_after : (a b : ℕ) {z : Bool} → z ≡ ltb a b → z ≡ false → b ≤ a
test_after a b p q = ltb-false a b (sym p ∙ q)

pub test_same : (a b : ℕ) {z : Bool} → z ≡ eqb a b → z ≡ true → a ≡ b
test_same a b p q = eqb-true a b (sym p ∙ q)
