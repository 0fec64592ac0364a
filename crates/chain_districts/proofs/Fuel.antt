-- Fuel: more fuel than there are pieces gives the same walk.
-- It is true because neither going forward nor going back meets a piece twice, so that the fuel is never used up.
use Prim.Native.Nat.{ℕ, zero, suc, ◌+◌, ◌*◌, ◌≤◌, ◌<◌, zero-le}
use mathlib.Core.Path.{◌≡◌, refl, ap, ◌∙◌}
use mathlib.Core.Bool.{Bool, true, false}
use mathlib.Core.List.{List, [], ◌∷◌, map}
use mathlib.Core.Option.{Option, none, some}
use native.Mathlib.Omega.{arith}
use lib.Dec.{eqb}
use lib.ListN.{length}
use borrow.Author.Tests.{eqb-false}
use Rattle.rules.specs.Lists.{count, stands}
use Rattle.rules.specs.Walking.{piece_of, other, back, forward, walk}
use Rattle.chain_laws.specs.Joins.{Joins}
use Rattle.chain_laws.proofs.Counts.{stands_false, once_cons, below_cons, pigeon}
use Rattle.chain_laws.proofs.Ends.{other_piece, other_other, end_zero}
use Rattle.chain_laws.proofs.Back.{Trail, here, step, Once, onward}
use Rattle.chain_laws.proofs.Walks.{Visited, head_below, head_fresh}

module _ (n : ℕ) (p : ℕ → Option ℕ) (J : Joins n p) where
  forward_fuel : (k j : ℕ) (v : List ℕ) (e : ℕ)
      → n ≤ k + length v → n ≤ j + length v
      → ((x : ℕ) → count x v ≤ 1)
      → ((x : ℕ) → 0 < count x v → x < n)
      → piece_of e < n
      → count (piece_of e) v ≡ 0
      → forward p k v e ≡ forward p j v e
  unfolding forward
  forward_fuel zero j v e fk fj once below b fresh =
      absurd (omega (arith, pigeon n (piece_of e ∷ v) (once_cons (piece_of e) v once fresh) (below_cons n (piece_of e) v below b)))
  forward_fuel (suc k) zero v e fk fj once below b fresh =
      absurd (omega (arith, pigeon n (piece_of e ∷ v) (once_cons (piece_of e) v once fresh) (below_cons n (piece_of e) v below b)))
  forward_fuel (suc k) (suc j) v e fk fj once below b fresh =
      go (p (other e)) refl
      (λ f b' z. forward_fuel k j (piece_of e ∷ v) f (omega arith) (omega arith)
      (once_cons (piece_of e) v once fresh) (below_cons n (piece_of e) v below b) b' z)
    where
      at : (f : ℕ) → p (other e) ≡ some f → (t : Bool) → stands (piece_of f) (piece_of e ∷ v) ≡ t
          → (count (piece_of f) (piece_of e ∷ v) ≡ 0 → forward p k (piece_of e ∷ v) f ≡ forward p j (piece_of e ∷ v) f)
          → forward p (suc k) v e ≡ forward p (suc j) v e
      at f q true s ih = rw (q, s)
      at f q false s ih = rw (q, s) (ap {B = List ℕ} (λ w. e ∷ w) (ih (stands_false (piece_of f) (piece_of e ∷ v) s)))

      go : (o : Option ℕ) → p (other e) ≡ o
          → ((f : ℕ) → piece_of f < n → count (piece_of f) (piece_of e ∷ v) ≡ 0 → forward p k (piece_of e ∷ v) f ≡ forward p j (piece_of e ∷ v) f)
          → forward p (suc k) v e ≡ forward p (suc j) v e
      go none q ih = rw q
      go (some f) q ih = at f q (stands (piece_of f) (piece_of e ∷ v)) refl (ih f (J.within (other e) f q))

  back_fuel : (s k j e : ℕ) (u : List ℕ) → Trail p (2 * s) e u
      → Once (e ∷ u)
      → ((x : ℕ) → 0 < count x (map piece_of (e ∷ u)) → x < n)
      → n ≤ k + length (map piece_of u) → n ≤ j + length (map piece_of u)
      → back p s k e ≡ back p s j e
  unfolding back
  back_fuel s zero j e u r once below fk fj = absurd (omega (arith, pigeon n (map piece_of (e ∷ u)) once below))
  back_fuel s (suc k) zero e u r once below fk fj = absurd (omega (arith, pigeon n (map piece_of (e ∷ u)) once below))
  back_fuel s (suc k) (suc j) e u r once below fk fj =
      go (p e) refl
      (λ f q z. back_fuel s k j (other f) (e ∷ u) (step r (rw other_other q))
      (rw other_piece (once_cons (piece_of f) (map piece_of (e ∷ u)) once z))
      (rw other_piece (below_cons n (piece_of f) (map piece_of (e ∷ u)) below (J.within e f q)))
      (omega arith) (omega arith))
    where
      at : (f : ℕ) → p e ≡ some f → (t : Bool) → eqb (piece_of f) s ≡ t
          → (count (piece_of f) (map piece_of (e ∷ u)) ≡ 0 → back p s k (other f) ≡ back p s j (other f))
          → back p s (suc k) e ≡ back p s (suc j) e
      at f q true t ih = rw (q, t, back)
      at f q false t ih =
          rw (q, t, back) (ih (onward n p J (2 * s) e u r f once q (λ d. eqb-false (piece_of f) s t (omega arith))))

      go : (o : Option ℕ) → p e ≡ o
          → ((f : ℕ) → p e ≡ some f → count (piece_of f) (map piece_of (e ∷ u)) ≡ 0 → back p s k (other f) ≡ back p s j (other f))
          → back p s (suc k) e ≡ back p s (suc j) e
      go none q ih = rw (q, back)
      go (some f) q ih = at f q (eqb (piece_of f) s) refl (ih f q)

  -- a walk with more fuel than there are pieces is the walk
  pub walk_fuel : (m : ℕ) → n ≤ m → (v : List ℕ) → Visited n p v → (s : ℕ) → s < n → count s v ≡ 0 → walk p m v s ≡ walk p n v s
  unfolding walk count
  walk_fuel m h v k s b fresh =
      ap (forward p m v)
      (back_fuel s m n (2 * s) [] here (once_cons (piece_of (2 * s)) [] (λ x. zero-le) refl)
      (below_cons n (piece_of (2 * s)) [] (λ x i. absurd (omega arith)) (rw (end_zero s) b)) (omega arith) (omega arith))
      ∙ forward_fuel m n v (back p s n (2 * s)) (omega arith) (omega arith) k.once k.below
      (head_below n p J v k s b fresh) (head_fresh n p J v k s b fresh)
