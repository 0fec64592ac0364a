-- Where no end is joined, each piece is a walk of its own, entered at its end 0: a start's way back ends where it begins, and so does its way forward.
use Prim.Native.Nat.{ℕ, zero, suc, ◌+◌, ◌*◌, ◌/◌, ◌≤◌, ◌<◌}
use mathlib.Core.Path.{◌≡◌, refl, ap, ◌∙◌}
use mathlib.Core.Bool.{false}
use mathlib.Core.List.{List, [], ◌∷◌, ◌++◌, map}
use mathlib.Core.Option.{Option, none}
use native.Mathlib.Omega.{arith}
use borrow.Author.Tests.{le-ltb}
use Rattle.rules.specs.Lists.{count, stands, from, upto}
use Rattle.rules.specs.Walking.{piece_of, other, back, forward, walk, walks_from, walks}
use Rattle.chain_laws.proofs.Counts.{one_other}
use Rattle.chain_laws.proofs.Walks.{walks_next}

module _ (p : ℕ → Option ℕ) (free : (e : ℕ) → p e ≡ none) where
  back_free : (s k e : ℕ) → back p s (suc k) e ≡ e
  unfolding back
  back_free s k e = rw (free e, back)

  forward_free : (k : ℕ) (v : List ℕ) (e : ℕ) → forward p (suc k) v e ≡ e ∷ []
  unfolding forward
  forward_free k v e = rw (free (other e), forward)

  walk_free : (n : ℕ) (v : List ℕ) (s : ℕ) → 0 < n → walk p n v s ≡ s * 2 ∷ []
  unfolding walk
  walk_free zero v s h = absurd (omega arith)
  walk_free (suc n) v s h =
      let q : 2 * s ≡ s * 2 = omega arith in
      ap (forward p (suc n) v) (back_free s n (2 * s) ∙ q) ∙ forward_free n v (s * 2)

  fresh : (s : ℕ) (v : List ℕ) → count s v ≡ 0 → stands s v ≡ false
  unfolding stands
  fresh s v h = le-ltb 0 (count s v) (omega arith)

  -- the starts from s on, where all that was visited is below s
  from_free : (k s n : ℕ) (v : List ℕ) → s + k ≤ n → ((x : ℕ) → s ≤ x → count x v ≡ 0)
      → walks_from p n v (from s k) ≡ map (λ q. q * 2 ∷ []) (from s k)
  unfolding from count walks_from
  from_free zero s n v h f = refl
  from_free (suc k) s n v h f =
      walks_next p n v s (from (suc s) k) (fresh s v (f s (omega arith)))
      ∙ ap (λ (w : List ℕ). w ∷ walks_from p n (map piece_of w ++ v) (from (suc s) k)) (walk_free n v s (omega arith))
      ∙ ap {B = List (List ℕ)} (λ l. (s * 2 ∷ []) ∷ l)
      (from_free k (suc s) n (s * 2 / 2 ∷ v) (omega arith)
      (λ x i. omega (arith, f x (omega arith), one_other x (s * 2 / 2) (λ q. omega arith))))

  pub walks_free : (n : ℕ) → walks p n ≡ map (λ q. q * 2 ∷ []) (upto n)
  unfolding walks upto count
  walks_free n = from_free n 0 n [] (omega arith) (λ x i. refl)
