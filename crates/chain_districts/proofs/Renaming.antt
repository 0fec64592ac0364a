-- Renaming: a function that keeps the order of names keeps mates; and a selection looks at piece numbers only to tell two pieces apart.
use Prim.Native.Nat.{ℕ}
use mathlib.Core.Path.{◌≡◌, refl, ap, ap₂, ◌∙◌}
use mathlib.Core.Bool.{Bool, true, false}
use mathlib.Core.List.{List, [], ◌∷◌, ◌++◌, map}
use mathlib.Core.Option.{Option, none, some}
use lib.Dec.{eqb}
use lib.Ieee.{Float}
use Rattle.rules.specs.Selecting.{End, Pair, within, pair, pairs_with, qualifying, sorted, greedy, select}
use Rattle.rules.specs.Chaining.{mate}
use Rattle.pair_laws.specs.Ends.{renamed, named}
use Rattle.pair_laws.proofs.Renaming.{Rising, same_eqb, same_select}

abbrev pub mapped : (ℕ → ℕ) → Option ℕ → Option ℕ
mapped f none = none
mapped f (some x) = some (f x)

abbrev pub both : (ℕ → ℕ) → ℕ × ℕ → ℕ × ℕ
both f q = (f q.0, f q.1)

-- an end with another piece number
abbrev pub moved : (ℕ → ℕ) → End → End
moved g a = record { name = a.name; piece = g a.piece; direction = a.direction }

-- ---- names

module _ (f : ℕ → ℕ) (r : Rising f) where
  pub same_mate : (e : ℕ) (l : List (ℕ × ℕ)) → mate (f e) (map (both f) l) ≡ mapped f (mate e l)
  unfolding mate
  same_mate e [] = refl
  same_mate e (q ∷ l) = go (eqb e q.0) refl (eqb e q.1) refl (same_mate e l)
    where
      go : (s : Bool) → eqb e q.0 ≡ s → (t : Bool) → eqb e q.1 ≡ t → mate (f e) (map (both f) l) ≡ mapped f (mate e l)
          → mate (f e) (map (both f) (q ∷ l)) ≡ mapped f (mate e (q ∷ l))
      go true a t b ih = rw (same_eqb f r e q.0 ∙ a, a, mate)
      go false a true b ih = rw (same_eqb f r e q.0 ∙ a, a, same_eqb f r e q.1 ∙ b, b, mate)
      go false a false b ih = rw (same_eqb f r e q.0 ∙ a, a, same_eqb f r e q.1 ∙ b, b, mate) ih

-- ---- piece numbers

module _ (g : ℕ → ℕ) (same : (i j : ℕ) → eqb (g i) (g j) ≡ eqb i j) (limit : Float) where
  moved_pair : (a b : End) → pair limit (moved g a) (moved g b) ≡ pair limit a b
  unfolding pair
  moved_pair a b =
      ap {B = List Pair} (λ t. elim t [ true ↦ [] | false ↦ within limit a.name b.name a.direction b.direction ]) (same a.piece b.piece)

  moved_with : (a : End) (l : List End) → pairs_with limit (moved g a) (map (moved g) l) ≡ pairs_with limit a l
  unfolding pairs_with
  moved_with a [] = refl
  moved_with a (b ∷ l) = ap₂ ◌++◌ (moved_pair a b) (moved_with a l)

  moved_qualifying : (l : List End) → qualifying limit (map (moved g) l) ≡ qualifying limit l
  unfolding qualifying
  moved_qualifying [] = refl
  moved_qualifying (a ∷ l) = ap₂ ◌++◌ (moved_with a l) (moved_qualifying l)

  -- both at once
  pub moved_select : (f : ℕ → ℕ) → Rising f → (l : List End)
      → select limit (map (named f) (map (moved g) l)) ≡ map (renamed f) (select limit l)
  unfolding select
  moved_select f r l =
      same_select f r limit (map (moved g) l) ∙ ap (λ (m : List Pair). map (renamed f) (greedy [] (sorted m))) (moved_qualifying l)
