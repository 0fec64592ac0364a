-- Ends may be renamed by any function that keeps the order of names: the selection is the same, with the names changed along.
use Prim.Native.Nat.{ℕ, ◌+◌, ◌-◌, ◌<◌}
use mathlib.Core.Path.{◌≡◌, refl, sym, ap, ap₂, ◌∙◌}
use mathlib.Core.Logic.{◌⊎◌, inl, inr}
use mathlib.Core.Bool.{Bool, true, false, ◌||◌}
use mathlib.Core.List.{List, [], ◌∷◌, ◌++◌, map, map-append}
use native.Mathlib.Omega.{arith}
use lib.Dec.{ltb, eqb}
use lib.Ieee.{Float, le}
use borrow.Author.Tests.{lt-ltb, le-ltb, eq-eqb, ne_eqb}
use Rattle.rules.specs.Answers.{Direction}
use Rattle.rules.specs.Answers.{Absent, Toward}
use Rattle.rules.specs.Lists.{one, count, stands}
use Rattle.rules.specs.Plane.{measure}
use Rattle.rules.specs.Selecting.{End, Pair, within, pair, pairs_with, qualifying, before, insert, sorted, greedy, select}
use Rattle.pair_laws.specs.Ends.{renamed, named}
use Rattle.pair_laws.proofs.Order.{two, three}
use Rattle.pair_laws.proofs.Keyed.{greedy_taken, greedy_next}

-- f keeps the order
pub record Rising (f : ℕ → ℕ) : Type 0 where
  pub up : (i j : ℕ) → i < j → f i < f j

module _ (f : ℕ → ℕ) (r : Rising f) where
  same_ltb : (i j : ℕ) → ltb (f i) (f j) ≡ ltb i j
  same_ltb i j = go (three i j)
    where
      go : (i < j) ⊎ ((i ≡ j) ⊎ (j < i)) → ltb (f i) (f j) ≡ ltb i j
      go (inl h) = lt-ltb (f i) (f j) (r.up i j h) ∙ sym (lt-ltb i j h)
      go (inr (inl h)) = le-ltb (f i) (f j) (omega (arith, ap f h)) ∙ sym (le-ltb i j (omega arith))
      go (inr (inr h)) = le-ltb (f i) (f j) (omega (arith, r.up j i h)) ∙ sym (le-ltb i j (omega arith))

  pub same_eqb : (i j : ℕ) → eqb (f i) (f j) ≡ eqb i j
  same_eqb i j = go (three i j)
    where
      go : (i < j) ⊎ ((i ≡ j) ⊎ (j < i)) → eqb (f i) (f j) ≡ eqb i j
      go (inl h) = ne_eqb (f i) (f j) (λ e. omega (arith, r.up i j h)) ∙ sym (ne_eqb i j (λ e. omega arith))
      go (inr (inl h)) = eq-eqb (f i) (f j) (ap f h) ∙ sym (eq-eqb i j h)
      go (inr (inr h)) = ne_eqb (f i) (f j) (λ e. omega (arith, r.up j i h)) ∙ sym (ne_eqb i j (λ e. omega arith))

  pub same_count : (x : ℕ) (l : List ℕ) → count (f x) (map f l) ≡ count x l
  unfolding count
  same_count x [] = refl
  same_count x (a ∷ l) = ap₂ ◌+◌ (ap one (same_eqb x a)) (same_count x l)

  same_stands : (x : ℕ) (l : List ℕ) → stands (f x) (map f l) ≡ stands x l
  unfolding stands
  same_stands x l = ap (ltb 0) (same_count x l)

  -- ---- sorting

  same_before : (p q : Pair) → before (renamed f p) (renamed f q) ≡ before p q
  unfolding before
  same_before p q = rw (same_ltb p.i q.i, same_eqb p.i q.i, same_ltb p.j q.j)

  same_insert : (p : Pair) (l : List Pair) → insert (renamed f p) (map (renamed f) l) ≡ map (renamed f) (insert p l)
  unfolding insert
  same_insert p [] = refl
  same_insert p (q ∷ l) = go (before p q) refl (same_insert p l)
    where
      go : (t : Bool) → before p q ≡ t → insert (renamed f p) (map (renamed f) l) ≡ map (renamed f) (insert p l)
          → insert (renamed f p) (map (renamed f) (q ∷ l)) ≡ map (renamed f) (insert p (q ∷ l))
      go true a ih = rw (same_before p q ∙ a, a, insert)
      go false a ih = rw (same_before p q ∙ a, a, insert) (ap {B = List Pair} (λ m. renamed f q ∷ m) ih)

  same_sorted : (l : List Pair) → sorted (map (renamed f) l) ≡ map (renamed f) (sorted l)
  unfolding sorted
  same_sorted [] = refl
  same_sorted (p ∷ l) = ap (insert (renamed f p)) (same_sorted l) ∙ same_insert p (sorted l)

  -- ---- taking

  same_greedy : (taken : List ℕ) (l : List Pair) → greedy (map f taken) (map (renamed f) l) ≡ map (renamed f) (greedy taken l)
  same_greedy taken [] = unfold greedy in refl
  same_greedy taken (p ∷ l) = go (two (stands p.i taken || stands p.j taken)) (same_greedy taken l) (same_greedy (p.i ∷ p.j ∷ taken) l)
    where
      test : (stands (f p.i) (map f taken) || stands (f p.j) (map f taken)) ≡ (stands p.i taken || stands p.j taken)
      test = ap₂ ◌||◌ (same_stands p.i taken) (same_stands p.j taken)

      go : ((stands p.i taken || stands p.j taken) ≡ true) ⊎ ((stands p.i taken || stands p.j taken) ≡ false)
          → greedy (map f taken) (map (renamed f) l) ≡ map (renamed f) (greedy taken l)
          → greedy (map f (p.i ∷ p.j ∷ taken)) (map (renamed f) l) ≡ map (renamed f) (greedy (p.i ∷ p.j ∷ taken) l)
          → greedy (map f taken) (map (renamed f) (p ∷ l)) ≡ map (renamed f) (greedy taken (p ∷ l))
      go (inl a) ih ih' = greedy_taken (map f taken) (renamed f p) (map (renamed f) l) (test ∙ a) ∙ ih ∙ sym (ap (map (renamed f)) (greedy_taken taken p l a))
      go (inr a) ih ih' =
          greedy_next (map f taken) (renamed f p) (map (renamed f) l) (test ∙ a)
          ∙ ap {B = List Pair} (λ m. renamed f p ∷ m) ih'
          ∙ sym (ap (map (renamed f)) (greedy_next taken p l a))

  -- ---- qualifying

  module _ (limit : Float) where
    same_within : (i j : ℕ) (a b : Direction) → within limit (f i) (f j) a b ≡ map (renamed f) (within limit i j a b)
    unfolding within
    same_within i j Absent b = refl
    same_within i j (Toward ax ay) Absent = refl
    same_within i j (Toward ax ay) (Toward bx by) = go (le (measure ax ay bx by) limit)
      where
        go : (t : Bool)
            → ◌≡◌ {A = List Pair} (elim t [ true ↦ record { size = measure ax ay bx by; i = f i; j = f j } ∷ [] | false ↦ [] ])
            (map (renamed f) (elim t [ true ↦ record { size = measure ax ay bx by; i = i; j = j } ∷ [] | false ↦ [] ]))
        go true = refl
        go false = refl

    same_pair : (a b : End) → pair limit (named f a) (named f b) ≡ map (renamed f) (pair limit a b)
    unfolding pair
    same_pair a b = go (eqb a.piece b.piece)
      where
        go : (t : Bool)
            → ◌≡◌ {A = List Pair} (elim t [ true ↦ [] | false ↦ within limit (f a.name) (f b.name) a.direction b.direction ])
            (map (renamed f) (elim t [ true ↦ [] | false ↦ within limit a.name b.name a.direction b.direction ]))
        go true = refl
        go false = same_within a.name b.name a.direction b.direction

    same_with : (a : End) (l : List End) → pairs_with limit (named f a) (map (named f) l) ≡ map (renamed f) (pairs_with limit a l)
    unfolding pairs_with
    same_with a [] = refl
    same_with a (b ∷ l) = ap₂ ◌++◌ (same_pair a b) (same_with a l) ∙ sym (map-append (renamed f) (pair limit a b) (pairs_with limit a l))

    same_qualifying : (l : List End) → qualifying limit (map (named f) l) ≡ map (renamed f) (qualifying limit l)
    unfolding qualifying
    same_qualifying [] = refl
    same_qualifying (a ∷ l) =
        ap₂ ◌++◌ (same_with a l) (same_qualifying l) ∙ sym (map-append (renamed f) (pairs_with limit a l) (qualifying limit l))

    pub same_select : (l : List End) → select limit (map (named f) l) ≡ map (renamed f) (select limit l)
    unfolding select
    same_select l =
        ap (λ (m : List Pair). greedy [] (sorted m)) (same_qualifying l)
        ∙ ap (greedy []) (same_sorted (qualifying limit l))
        ∙ same_greedy [] (sorted (qualifying limit l))
