-- Ends that are listed by name: their selection is the ranked selection of their node, each place then given its name. The names are a rising
-- function of the places, which is carried on beyond the last place so that it rises everywhere.
use Prim.Native.Nat.{ℕ, zero, suc, ◌+◌, ◌-◌, ◌≤◌, ◌<◌}
use mathlib.Core.Path.{◌≡◌, refl, sym, ap, ap₂, ◌∙◌}
use mathlib.Core.Logic.{◌⊎◌, inl, inr}
use mathlib.Core.Bool.{true, false, not, ◌&&◌, cond}
use mathlib.Core.List.{List, [], ◌∷◌, map, map-map}
use native.Mathlib.Omega.{arith}
use lib.ListN.{length}
use lib.Dec.{T, ltb, eqb}
use lib.Ieee.{Float, binary64, is_nan, fits}
use borrow.Author.Tests.{ltb-true, ltb-false, lt-ltb, le-ltb}
use Rattle.rules.specs.Selecting.{End, select}
use Rattle.float_order.specs.Key.{key}
use Rattle.pair_laws.specs.Ranked as ranked
use Rattle.pair_laws.specs.Ranked.{Node}
use Rattle.pair_laws.specs.Sets.{In}
use Rattle.pair_laws.specs.Ends.{end_at, name_at, there, key_of, node_of, ByName, ByPlace, keyed, named, renamed, placed, sides, sides_by}
use Rattle.pair_laws.proofs.Order.{two, three}
use Rattle.pair_laws.proofs.Lists.{map_same}
use Rattle.pair_laws.proofs.Laws.{select_settled, in_candidates}
use Rattle.pair_laws.proofs.Bridge.{select_ranked}
use Rattle.pair_laws.proofs.Renaming.{Rising, same_select}

-- ---- the same ends by place

pub placed_length : (k : ℕ) (l : List End) → length (placed k l) ≡ length l
unfolding placed
placed_length k [] = refl
placed_length k (a ∷ l) = ap suc (placed_length (suc k) l)

placed_name : (k : ℕ) (l : List End) (e : ℕ) → e < length l → name_at (placed k l) e ≡ k + e
unfolding placed
placed_name k [] e h = absurd (omega arith)
placed_name k (a ∷ l) zero h = omega arith
placed_name k (a ∷ l) (suc e) h = (let t = placed_name (suc k) l e (omega arith) in omega (arith, t))

placed_piece : (k : ℕ) (l : List End) (e : ℕ) → (end_at (placed k l) e).piece ≡ (end_at l e).piece
unfolding placed
placed_piece k [] e = refl
placed_piece k (a ∷ l) zero = refl
placed_piece k (a ∷ l) (suc e) = placed_piece (suc k) l e

placed_direction : (k : ℕ) (l : List End) (e : ℕ) → (end_at (placed k l) e).direction ≡ (end_at l e).direction
unfolding placed
placed_direction k [] e = refl
placed_direction k (a ∷ l) zero = refl
placed_direction k (a ∷ l) (suc e) = placed_direction (suc k) l e

pub by_place : (l : List End) → ByPlace (placed 0 l)
by_place l = record { placed = λ e h. (let t = placed_name 0 l e (omega (arith, placed_length 0 l)) in omega (arith, t)) }

placed_node : (l : List End) → node_of (placed 0 l) ≡ node_of l
placed_node l =
    λ t. record {
      d = placed_length 0 l t;
      may =
          λ i j. there (placed_direction 0 l i t) && (there (placed_direction 0 l j t) && not (eqb (placed_piece 0 l i t) (placed_piece 0 l j t)));
      key = λ i j. key_of (placed_direction 0 l i t) (placed_direction 0 l j t);
    }

-- ---- names that rise everywhere

spread : List End → ℕ → ℕ
spread l e = cond (ltb e (length l)) (name_at l e) (name_at l (length l - 1) + e + 1)

spread_in : (l : List End) (e : ℕ) → e < length l → spread l e ≡ name_at l e
unfolding spread
spread_in l e h = rw (lt-ltb e (length l) h)

spread_past : (l : List End) (e : ℕ) → length l ≤ e → spread l e ≡ name_at l (length l - 1) + e + 1
unfolding spread
spread_past l e h = rw (le-ltb e (length l) h)

spread_rises : (l : List End) → ByName l → Rising (spread l)
spread_rises l b = record { up = λ i j h. go i j h (two (ltb i (length l))) (two (ltb j (length l))) }
  where
    last : (i : ℕ) → i < length l → name_at l i ≤ name_at l (length l - 1)
    last i h = which (three i (length l - 1))
      where
        which : (i < length l - 1) ⊎ ((i ≡ length l - 1) ⊎ (length l - 1 < i)) → name_at l i ≤ name_at l (length l - 1)
        which (inl k) = omega (arith, b.rises i (length l - 1) k (omega arith))
        which (inr (inl k)) = omega (arith, ap (name_at l) k)
        which (inr (inr k)) = absurd (omega arith)

    go : (i j : ℕ) → i < j → (ltb i (length l) ≡ true) ⊎ (ltb i (length l) ≡ false) → (ltb j (length l) ≡ true) ⊎ (ltb j (length l) ≡ false)
        → spread l i < spread l j
    go i j h (inl p) (inl q) =
        let u = ltb-true i (length l) p in
        let v = ltb-true j (length l) q in
        omega (arith, spread_in l i u, spread_in l j v, b.rises i j h v)
    go i j h (inl p) (inr q) =
        let u = ltb-true i (length l) p in
        omega (arith, spread_in l i u, spread_past l j (ltb-false j (length l) q), last i u)
    go i j h (inr p) (inl q) = absurd (omega (arith, ltb-false i (length l) p, ltb-true j (length l) q))
    go i j h (inr p) (inr q) = omega (arith, spread_past l i (ltb-false i (length l) p), spread_past l j (ltb-false j (length l) q))

named_placed : (f : ℕ → ℕ) (k : ℕ) (l : List End) → ((e : ℕ) → e < length l → f (k + e) ≡ name_at l e) → map (named f) (placed k l) ≡ l
unfolding placed
named_placed f k [] h = refl
named_placed f k (a ∷ l) h =
    ap₂ {C = List End} (λ x xs. x ∷ xs) (λ t. record { name = first t; piece = a.piece; direction = a.direction })
    (named_placed f (suc k) l (λ e m. ap f (next e) ∙ h (suc e) (omega arith)))
  where
    nought : k ≡ k + 0
    nought = omega arith

    first : f k ≡ a.name
    first = ap f nought ∙ h 0 (omega arith)

    next : (e : ℕ) → suc k + e ≡ k + suc e
    next e = omega arith

-- ---- the selection

module _ (limit : Float) (l : List End) (b : ByName l) where
  select_placed : select limit l ≡ map (renamed (spread l)) (select limit (placed 0 l))
  select_placed =
      ap (select limit) (sym (named_placed (spread l) 0 l at)) ∙ same_select (spread l) (spread_rises l b) limit (placed 0 l)
    where
      at : (e : ℕ) → e < length l → spread l (0 + e) ≡ name_at l e
      at e h = (let t : 0 + e ≡ e = omega arith in ap (spread l) t ∙ spread_in l e h)

module _ (limit : Float) (fitting : T (fits binary64 limit)) (number : T (not (is_nan limit))) (l : List End) (b : ByName l) where
  -- the places of the ranked selection, each with its name
  pub select_named : map sides (select limit l) ≡ map (sides_by (name_at l)) (ranked.select (node_of l) (key limit))
  select_named =
      ap (map sides) (select_placed limit l b)
      ∙ map-map sides (renamed (spread l)) (select limit (placed 0 l))
      ∙ sym (map-map (sides_by (spread l)) keyed (select limit (placed 0 l)))
      ∙ ap (map (sides_by (spread l)))
      (select_ranked limit fitting number (placed 0 l) (by_place l) ∙ ap (λ (n : Node). ranked.select n (key limit)) (placed_node l))
      ∙ map_same (sides_by (spread l)) (sides_by (name_at l)) (ranked.select (node_of l) (key limit)) inside
    where
      inside : (q : ranked.RankedPair) → In q (ranked.select (node_of l) (key limit)) → sides_by (spread l) q ≡ sides_by (name_at l) q
      inside q m =
          let e = (in_candidates (node_of l) (key limit) q ((select_settled (node_of l) (key limit)).within q m)).0 in
          let i = spread_in l q.i (omega (arith, e.lower, e.below)) in
          let j = spread_in l q.j e.below in
          λ t. (i t, j t)
