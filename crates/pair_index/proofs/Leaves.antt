-- The index as a query reads it: its leaves are the free ends with their directions, and the search finds the least of them.
use Prim.Native.Nat.{ℕ, zero, suc, ◌+◌, ◌-◌, ◌*◌, ◌^◌, ◌≤◌, ◌<◌, min}
use mathlib.Core.Path.{◌≡◌, refl, sym, ap, ◌∙◌, subst}
use mathlib.Core.Bool.{Bool, true, false, cond}
use mathlib.Core.List.{List, [], ◌∷◌}
use mathlib.Core.Logic.{◌⊎◌, inl, inr, ⊎_elim}
use native.Mathlib.Omega.{arith}
use native.Mathlib.Nat.{one-mul}
use lib.ListN.{length}
use lib.Ieee.{Float}
use Rattle.rules.specs.Answers.{Direction}
use Rattle.rules.specs.Answers.{Absent, Toward}
use Rattle.rules.specs.Selecting.{End}
use Rattle.pair_bounds.specs.Box.{empty_of}
use Rattle.pair_bounds.specs.Search.{least}
use Rattle.pair_laws.specs.Ends.{end_at, there}
use Rattle.pair_ends.specs.Blocks.{pairs_from}
use Rattle.pair_ends.specs.Ends.{EndsRoom, direction_at, piece_at, ends_in}
use Rattle.pair_ends.proofs.Reading.{ends_in_length, ends_in_at}
use Rattle.pair_tree.proofs.Flat.{climb, twice, left_is, right_is, last_is, next_is, below_or}
use Rattle.pair_index.specs.Nodes.{node_at}
use Rattle.pair_index.specs.Search.{Built, Searchable}
use Rattle.pair_index.specs.Index.{box_of, Indexed, Finite, Query}

-- ---- the least of the leaves, over their numbers
module _ (w : ℕ → ℕ) where
  pub least_le : (h n x : ℕ) → n * 2 ^ h ≤ x → x < (n + 1) * 2 ^ h → least w h n ≤ w x
  unfolding least
  least_le zero n x a b = let e : n ≡ x = omega arith in rw e (omega arith)
  least_le (suc h) n x a b =
      let a' : n * (2 * 2 ^ h) ≤ x = rw (twice h) at a in
      let b' : x < (n + 1) * (2 * 2 ^ h) = rw (twice h) at b in
      ⊎_elim
      (λ (c : x < (2 * n + 1) * 2 ^ h). let i = least_le h (2 * n) x (omega (arith, left_is n (2 ^ h))) c in omega arith)
      (λ (c : (2 * n + 1) * 2 ^ h ≤ x). let i = least_le h (2 * n + 1) x c (omega (arith, last_is n (2 ^ h))) in omega arith)
      (below_or x ((2 * n + 1) * 2 ^ h))

  pub least_is : (h n : ℕ) → (x : ℕ) × (n * 2 ^ h ≤ x) × (x < (n + 1) * 2 ^ h) × (least w h n ≡ w x)
  unfolding least
  least_is zero n = (n, omega arith, omega arith, refl)
  least_is (suc h) n = go (least_is h (2 * n)) (least_is h (2 * n + 1)) (below_or (least w h (2 * n)) (least w h (2 * n + 1)))
    where
      go : (x : ℕ) × (2 * n * 2 ^ h ≤ x) × (x < (2 * n + 1) * 2 ^ h) × (least w h (2 * n) ≡ w x)
          → (x : ℕ) × ((2 * n + 1) * 2 ^ h ≤ x) × (x < (2 * n + 1 + 1) * 2 ^ h) × (least w h (2 * n + 1) ≡ w x)
          → (least w h (2 * n) < least w h (2 * n + 1)) ⊎ (least w h (2 * n + 1) ≤ least w h (2 * n))
          → (x : ℕ) × (n * 2 ^ suc h ≤ x) × (x < (n + 1) * 2 ^ suc h) × (min (least w h (2 * n)) (least w h (2 * n + 1)) ≡ w x)
      go (x, a, b, e) t (inl c) =
          (x, rw (twice h) (omega (arith, left_is n (2 ^ h), a)), rw (twice h) (omega (arith, right_is n (2 ^ h), last_is n (2 ^ h), next_is (2 * n + 1) (2 ^ h), b)), omega (arith, e))
      go s (x, a, b, e) (inr c) = (x, rw (twice h) (omega (arith, right_is n (2 ^ h), a)), rw (twice h) (omega (arith, last_is n (2 ^ h), b)), omega (arith, e))

-- ---- ends

pub toward_of : (a : Direction) → there a ≡ true → (x y : Float) × (a ≡ Toward x y)
unfolding there
toward_of Absent h = let z : ◌≡◌ {A = ℕ} 0 1 = cc in absurd (omega arith)
toward_of (Toward x y) h = (x, y, refl)

pub is_there : {a : Direction} {x y : Float} → a ≡ Toward x y → there a ≡ true
is_there e = ap there e ∙ (unfold there in refl)

-- a direction is that of an end of the list
pub end_below : (l : List End) (e : ℕ) → there (end_at l e).direction ≡ true → e < length l
unfolding there
end_below [] e h = let z : ◌≡◌ {A = ℕ} 0 1 = cc in absurd (omega arith)
end_below (x ∷ l) zero h = omega arith
end_below (x ∷ l) (suc e) h = let i = end_below l e h in omega arith

module _ {w : List ℕ} {d : ℕ} (room : EndsRoom w d) where
  pub long : d * pairs_from ≤ length w
  long = omega (arith, room.long)

  pub ends_length : length (ends_in w d) ≡ d
  ends_length = ends_in_length w d long

  pub direction_is : (e : ℕ) → e < d → (end_at (ends_in w d) e).direction ≡ direction_at w d e
  direction_is e h = ap (λ (x : End). x.direction) (ends_in_at w d long e h)

  pub piece_is : (e : ℕ) → e < d → (end_at (ends_in w d) e).piece ≡ piece_at w d e
  piece_is e h = ap (λ (x : End). x.piece) (ends_in_at w d long e h)

  pub there_below : (e : ℕ) → there (end_at (ends_in w d) e).direction ≡ true → e < d
  there_below e h = let i = end_below (ends_in w d) e h in omega (arith, ends_length)

-- ---- the index as the search reads it

module _ {w : List ℕ} {d : ℕ} (t base : ℕ) (room : EndsRoom w d) (fin : Finite (ends_in w d)) (used : ℕ → Bool) (order : ℕ → ℕ) (k : Indexed w t base (ends_in w d) used order) where
  leaf_built : (p : ℕ) → p < base → Built (node_at w t) (direction_at w d) d zero (base + p)
  unfolding Built
  leaf_built p h = go (used (order p)) (end_at (ends_in w d) (order p)).direction refl (k.leaves p h)
    where
      go : (u : Bool) (a : Direction) → (end_at (ends_in w d) (order p)).direction ≡ a → node_at w t (base + p) ≡ cond u empty_of (box_of a (order p))
          → Built (node_at w t) (direction_at w d) d zero (base + p)
      go true a e q = inl q
      go false Absent e q = inl q
      go false (Toward x y) e q =
          let i = there_below room (order p) (is_there e) in
          inr (record {
            x = x;
            y = y;
            e = order p;
            box = q;
            toward = sym (direction_is room (order p) i) ∙ e;
            x_finite = (fin (order p) x y e).0;
            y_finite = (fin (order p) x y e).1;
            within = i;
          })

  built_from : (h n : ℕ) → 0 < n → base ≤ n * 2 ^ h → (n + 1) * 2 ^ h ≤ 2 * base → Built (node_at w t) (direction_at w d) d h n
  unfolding Built
  built_from =
      climb (Built (node_at w t) (direction_at w d) d) base
      (λ n a b. subst (λ (m : ℕ). Built (node_at w t) (direction_at w d) d zero m) (back n a) (leaf_built (n - base) (omega arith)))
      (λ h n p a l r. (k.inner n p a (omega arith), l, r))
    where
      back : (n : ℕ) → base ≤ n → base + (n - base) ≡ n
      back n h = omega arith

pub ready : {w : List ℕ} {d t height limit o : ℕ} → Query w d t height limit o → (ax ay : Float) → Toward ax ay ≡ direction_at w d o → Searchable w d t ax ay height 1
ready {w} {d} {t} {height} {limit} {o} q ax ay e =
    let f = q.finite_ends o ax ay (direction_is q.room o q.within ∙ sym e) in
    record {
      room = q.room;
      nodes = 2 * 2 ^ height;
      inside = omega (arith, q.inside);
      within = omega arith;
      built =
          built_from t (2 ^ height) q.room q.finite_ends q.used q.order q.indexed height 1 (omega arith) (omega (arith, one-mul (2 ^ height))) (omega arith);
      x_finite = f.0;
      y_finite = f.1;
      note = omega (arith, q.room.long, q.within);
      own_round = λ h. q.noted h o ax ay (direction_is q.room o q.within ∙ sym e);
      all_round = λ h k x y l z. q.noted h k x y (direction_is q.room k l ∙ z);
    }
