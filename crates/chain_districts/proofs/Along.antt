-- Walks along: where the partners of lifted ends are the lifted partners, so are the walks of lifted starts.
use Prim.Native.Nat.{ℕ, zero, suc, ◌+◌, ◌*◌}
use mathlib.Core.Path.{◌≡◌, refl, sym, ap, ap₂, ◌∙◌}
use mathlib.Core.Bool.{Bool, true, false}
use mathlib.Core.List.{List, [], ◌∷◌, map}
use mathlib.Core.Option.{Option, none, some}
use lib.Dec.{ltb, eqb}
use Rattle.rules.specs.Lists.{one, count, stands}
use Rattle.rules.specs.Walking.{piece_of, other, back, forward, walk}
use Rattle.pair_laws.proofs.Renaming.{same_eqb}
use Rattle.chain_districts.proofs.Renaming.{mapped}
use Rattle.chain_districts.proofs.Places.{place, place_rising, lift, lift_piece, lift_other, lift_double}

-- the pieces of a walk, by places
pub map_lift : (b : List Bool) (w : List ℕ) → map piece_of (map (lift b) w) ≡ map (place b) (map piece_of w)
map_lift b [] = refl
map_lift b (e ∷ w) = ap₂ {C = List ℕ} (λ x l. x ∷ l) (lift_piece b e) (map_lift b w)

module _ (b : List Bool) (p q : ℕ → Option ℕ) (along : (e : ℕ) → p (lift b e) ≡ mapped (lift b) (q e)) where
  same_place : (i j : ℕ) → eqb (piece_of (lift b i)) (place b j) ≡ eqb (piece_of i) j
  same_place i j = ap (λ (m : ℕ). eqb m (place b j)) (lift_piece b i) ∙ same_eqb (place b) (place_rising b) (piece_of i) j

  back_lift : (s k e : ℕ) → back p (place b s) k (lift b e) ≡ lift b (back q s k e)
  unfolding back
  back_lift s zero e = sym (lift_double b s)
  back_lift s (suc k) e = go (q e) refl (λ f. back_lift s k (other f))
    where
      at : (f : ℕ) → q e ≡ some f → p (lift b e) ≡ some (lift b f) → (t : Bool) → eqb (piece_of f) s ≡ t
          → back p (place b s) k (lift b (other f)) ≡ lift b (back q s k (other f))
          → back p (place b s) (suc k) (lift b e) ≡ lift b (back q s (suc k) e)
      at f j i true t ih = rw (j, i, same_place f s ∙ t, t, back) (sym (lift_double b s))
      at f j i false t ih = rw (j, i, same_place f s ∙ t, t, back) (rw lift_other ih)

      go : (o : Option ℕ) → q e ≡ o
          → ((f : ℕ) → back p (place b s) k (lift b (other f)) ≡ lift b (back q s k (other f)))
          → back p (place b s) (suc k) (lift b e) ≡ lift b (back q s (suc k) e)
      go none j ih = rw (j, along e ∙ ap (mapped (lift b)) j, back)
      go (some f) j ih = at f j (along e ∙ ap (mapped (lift b)) j) (eqb (piece_of f) s) refl (ih f)

  -- visited pieces of the district are visited in both
  more : (e : ℕ) (v u : List ℕ) → ((x : ℕ) → count (place b x) v ≡ count x u)
      → (x : ℕ) → count (place b x) (piece_of (lift b e) ∷ v) ≡ count x (piece_of e ∷ u)
  unfolding count
  more e v u h x =
      ap₂ ◌+◌ (ap one (ap (eqb (place b x)) (lift_piece b e) ∙ same_eqb (place b) (place_rising b) x (piece_of e))) (h x)

  tests : (e f : ℕ) (v u : List ℕ) → ((x : ℕ) → count (place b x) v ≡ count x u)
      → stands (piece_of (lift b f)) (piece_of (lift b e) ∷ v) ≡ stands (piece_of f) (piece_of e ∷ u)
  unfolding stands
  tests e f v u h = ap (ltb 0) (ap (λ (m : ℕ). count m (piece_of (lift b e) ∷ v)) (lift_piece b f) ∙ more e v u h (piece_of f))

  forward_lift : (k : ℕ) (v u : List ℕ) (e : ℕ) → ((x : ℕ) → count (place b x) v ≡ count x u)
      → forward p k v (lift b e) ≡ map (lift b) (forward q k u e)
  unfolding forward
  forward_lift zero v u e h = refl
  forward_lift (suc k) v u e h =
      go (q (other e)) refl (λ f. forward_lift k (piece_of (lift b e) ∷ v) (piece_of e ∷ u) f (more e v u h))
    where
      lead : (o : Option ℕ) → q (other e) ≡ o → p (other (lift b e)) ≡ mapped (lift b) o
      lead o j = ap p (lift_other b e) ∙ along (other e) ∙ ap (mapped (lift b)) j

      test : (f : ℕ) → stands (piece_of (lift b f)) (piece_of (lift b e) ∷ v) ≡ stands (piece_of f) (piece_of e ∷ u)
      test f = tests e f v u h

      at : (f : ℕ) → q (other e) ≡ some f → (t : Bool) → stands (piece_of f) (piece_of e ∷ u) ≡ t
          → forward p k (piece_of (lift b e) ∷ v) (lift b f) ≡ map (lift b) (forward q k (piece_of e ∷ u) f)
          → forward p (suc k) v (lift b e) ≡ map (lift b) (forward q (suc k) u e)
      at f j true t ih = rw (lead (some f) j, j, test f ∙ t, t)
      at f j false t ih = rw (lead (some f) j, j, test f ∙ t, t) (ap {B = List ℕ} (λ w. lift b e ∷ w) ih)

      go : (o : Option ℕ) → q (other e) ≡ o
          → ((f : ℕ) → forward p k (piece_of (lift b e) ∷ v) (lift b f) ≡ map (lift b) (forward q k (piece_of e ∷ u) f))
          → forward p (suc k) v (lift b e) ≡ map (lift b) (forward q (suc k) u e)
      go none j ih = rw (lead none j, j)
      go (some f) j ih = at f j (stands (piece_of f) (piece_of e ∷ u)) refl (ih f)

  -- v and u are what is visited, by places and by ranks
  pub walk_lift : (m : ℕ) (v u : List ℕ) (s : ℕ) → ((x : ℕ) → count (place b x) v ≡ count x u)
      → walk p m v (place b s) ≡ map (lift b) (walk q m u s)
  unfolding walk
  walk_lift m v u s h =
      ap (forward p m v) (ap (back p (place b s) m) (sym (lift_double b s)) ∙ back_lift s m (2 * s))
      ∙ forward_lift m v u (back q s m (2 * s)) h
