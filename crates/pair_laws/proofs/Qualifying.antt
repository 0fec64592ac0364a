-- Which pairs qualify: those of two places of the list, the lower first, whose ends are of different pieces and have directions with a measure at
-- or below the limit. Such a measure is a number of binary64, so that its key stands for it.
use Prim.Native.Nat.{ℕ, zero, suc, ◌<◌}
use mathlib.Core.Path.{◌≡◌, refl, sym, ◌∙◌, ap, subst}
use mathlib.Core.Bool.{Bool, true, false, not}
use mathlib.Core.Logic.{◌⊎◌, inl, inr, ⊎_elim}
use mathlib.Core.List.{List, [], ◌∷◌}
use native.Mathlib.Omega.{arith}
use lib.ListN.{length}
use lib.Dec.{T, eqb}
use lib.Ieee.{Float, binary64, le, is_nan, fits}
use Rattle.rules.specs.Answers.{Direction}
use Rattle.rules.specs.Answers.{Absent, Toward}
use Rattle.rules.specs.Plane.{measure}
use Rattle.rules.specs.Selecting.{End, Pair, within, pair, pairs_with, qualifying}
use Rattle.float_order.proofs.Order.{le_num_l}
use Rattle.float_order.proofs.Dot.{measure_fits}
use Rattle.pair_laws.specs.Sets.{In}
use Rattle.pair_laws.specs.Ends.{end_at}
use Rattle.pair_laws.proofs.Lists.{in_append, append_in}

-- ---- two ends

-- p is the pair of two directions, at or below the limit
pub record Within (limit : Float) (i j : ℕ) (a b : Direction) (p : Pair) : Type 0 where
  pub ax : Float
  pub ay : Float
  pub bx : Float
  pub by : Float
  pub from : a ≡ Toward ax ay
  pub to : b ≡ Toward bx by
  pub low : le (measure ax ay bx by) limit ≡ true
  pub is : p ≡ record { size = measure ax ay bx by; i = i; j = j }

pub in_within : (limit : Float) (i j : ℕ) (a b : Direction) (p : Pair) → In p (within limit i j a b) → Within limit i j a b p
unfolding within
in_within limit i j Absent b p h = absurd h
in_within limit i j (Toward ax ay) Absent p h = absurd h
in_within limit i j (Toward ax ay) (Toward bx by) p h = go (le (measure ax ay bx by) limit) refl h
  where
    go : (t : Bool) → le (measure ax ay bx by) limit ≡ t
        → In p (elim t as (λ _. List Pair) [ true ↦ record { size = measure ax ay bx by; i = i; j = j } ∷ [] | false ↦ [] ])
        → Within limit i j (Toward ax ay) (Toward bx by) p
    go true e (inl k) = record { ax = ax; ay = ay; bx = bx; by = by; from = refl; to = refl; low = e; is = k }
    go true e (inr k) = absurd k
    go false e k = absurd k

pub within_in : (limit : Float) (i j : ℕ) (ax ay bx by : Float) → le (measure ax ay bx by) limit ≡ true
    → In (record { size = measure ax ay bx by; i = i; j = j }) (within limit i j (Toward ax ay) (Toward bx by))
unfolding within
within_in limit i j ax ay bx by e = rw (e, within) (inl refl)

pub in_pair : (limit : Float) (a b : End) (p : Pair) → In p (pair limit a b)
    → (eqb a.piece b.piece ≡ false) × Within limit a.name b.name a.direction b.direction p
unfolding pair
in_pair limit a b p h = go (eqb a.piece b.piece) refl h
  where
    go : (t : Bool) → eqb a.piece b.piece ≡ t
        → In p (elim t as (λ _. List Pair) [ true ↦ [] | false ↦ within limit a.name b.name a.direction b.direction ])
        → (eqb a.piece b.piece ≡ false) × Within limit a.name b.name a.direction b.direction p
    go true e k = absurd k
    go false e k = (e, in_within limit a.name b.name a.direction b.direction p k)

pub pair_is : (limit : Float) (a b : End) → eqb a.piece b.piece ≡ false → pair limit a b ≡ within limit a.name b.name a.direction b.direction
unfolding pair
pair_is limit a b e = rw (e, pair)

-- ---- a list of ends

module _ (limit : Float) where
  in_with : (p : Pair) (a : End) (l : List End) → In p (pairs_with limit a l) → (e : ℕ) × (e < length l) × In p (pair limit a (end_at l e))
  unfolding pairs_with
  in_with p a [] h = absurd h
  in_with p a (b ∷ l) h =
      ⊎_elim
      (λ (k : In p (pair limit a b)). (0, omega arith, k))
      (λ (k : In p (pairs_with limit a l)). (let t = in_with p a l k in (suc t.0, omega (arith, t.1), t.2)))
      (in_append p (pair limit a b) (pairs_with limit a l) h)

  with_in : (p : Pair) (a : End) (l : List End) (e : ℕ) → e < length l → In p (pair limit a (end_at l e)) → In p (pairs_with limit a l)
  unfolding pairs_with
  with_in p a [] e h k = absurd (omega arith)
  with_in p a (b ∷ l) zero h k = append_in p (pair limit a b) (pairs_with limit a l) (inl k)
  with_in p a (b ∷ l) (suc e) h k = append_in p (pair limit a b) (pairs_with limit a l) (inr (with_in p a l e (omega arith) k))

  pub in_qualifying : (p : Pair) (l : List End) → In p (qualifying limit l) → (a b : ℕ) × (a < b) × (b < length l) × In p (pair limit (end_at l a) (end_at l b))
  unfolding qualifying
  in_qualifying p [] h = absurd h
  in_qualifying p (x ∷ l) h =
      ⊎_elim
      (λ (k : In p (pairs_with limit x l)). (let t = in_with p x l k in (0, suc t.0, omega arith, omega (arith, t.1), t.2)))
      (λ (k : In p (qualifying limit l)). (let t = in_qualifying p l k in (suc t.0, suc t.1, omega (arith, t.2), omega (arith, t.3), t.4)))
      (in_append p (pairs_with limit x l) (qualifying limit l) h)

  pub qualifying_in : (p : Pair) (l : List End) (a b : ℕ) → a < b → b < length l → In p (pair limit (end_at l a) (end_at l b)) → In p (qualifying limit l)
  unfolding qualifying
  qualifying_in p [] a b h k m = absurd (omega arith)
  qualifying_in p (x ∷ l) zero zero h k m = absurd (omega arith)
  qualifying_in p (x ∷ l) zero (suc b) h k m = append_in p (pairs_with limit x l) (qualifying limit l) (inl (with_in p x l b (omega arith) m))
  qualifying_in p (x ∷ l) (suc a) zero h k m = absurd (omega arith)
  qualifying_in p (x ∷ l) (suc a) (suc b) h k m =
      append_in p (pairs_with limit x l) (qualifying limit l) (inr (qualifying_in p l a b (omega arith) (omega arith) m))

-- ---- measures

-- a pair whose measure is a number of binary64
pub record Measured (p : Pair) : Type 0 where
  pub fitting : T (fits binary64 p.size)
  pub number : T (not (is_nan p.size))

pub qualifying_low : (limit : Float) (l : List End) (p : Pair) → In p (qualifying limit l) → le p.size limit ≡ true
qualifying_low limit l p h =
    let t = in_qualifying limit p l h in
    let w = (in_pair limit (end_at l t.0) (end_at l t.1) p t.4).1 in
    ap (λ (q : Pair). le q.size limit) w.is ∙ w.low

pub qualifying_measured : (limit : Float) (l : List End) (p : Pair) → In p (qualifying limit l) → Measured p
qualifying_measured limit l p h =
    let t = in_qualifying limit p l h in
    let w = (in_pair limit (end_at l t.0) (end_at l t.1) p t.4).1 in
    record {
      fitting = subst (λ (q : Pair). T (fits binary64 q.size)) (sym w.is) (measure_fits w.ax w.ay w.bx w.by);
      number = le_num_l p.size limit (subst T (sym (qualifying_low limit l p h)) tt);
    }
