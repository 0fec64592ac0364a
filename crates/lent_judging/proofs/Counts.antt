-- Two lists of one length, of which one has no number more often than the other: they have each number as often. It is true because what the first has can be
-- taken out of the second one by one, and then nothing is left.
use Prim.Native.Nat.{ℕ, suc, ◌+◌, ◌≤◌, ◌<◌}
use mathlib.Core.Path.{◌≡◌, refl}
use mathlib.Core.Bool.{Bool, true, false}
use mathlib.Core.List.{[], List, ◌∷◌}
use native.Mathlib.Decide.{ℕ_discrete}
use native.Mathlib.Omega.{arith}
use lib.Dec.{eqb}
use lib.ListN.{length}
use borrow.Author.Tests.{eqb-true, eqb-false}
use Rattle.rules.specs.Lists.{one, count}
use Rattle.chain_laws.proofs.Counts.{one_same, one_other}

-- a list without the first x in it
without : ℕ → List ℕ → List ℕ
without x [] = []
without x (a ∷ l) = elim (eqb x a) [ true ↦ l | false ↦ a ∷ without x l ]

without_here : (x a : ℕ) (l : List ℕ) → eqb x a ≡ true → without x (a ∷ l) ≡ l
unfolding without
without_here x a l e = rw (e, without)

without_later : (x a : ℕ) (l : List ℕ) → eqb x a ≡ false → without x (a ∷ l) ≡ a ∷ without x l
unfolding without
without_later x a l e = rw (e, without)

count_without : (x y : ℕ) (l : List ℕ) → 0 < count x l → count y (without x l) + one (eqb y x) ≡ count y l
unfolding count
count_without x y [] h = absurd (omega arith)
count_without x y (a ∷ l) h = go (eqb x a) refl (λ k. count_without x y l k)
  where
    same : x ≡ a → one (eqb y x) ≡ one (eqb y a)
    same q = elim (ℕ_discrete y x) [
      | yes e ↦ omega (arith, one_same y x e, one_same y a (omega arith))
      | no e ↦ omega (arith, one_other y x e, one_other y a (λ (f : y ≡ a). e (omega arith)))
    ]

    go : (t : Bool) → eqb x a ≡ t → (0 < count x l → count y (without x l) + one (eqb y x) ≡ count y l) → count y (without x (a ∷ l)) + one (eqb y x) ≡ count y (a ∷ l)
    go true e ih = rw (without_here x a l e) (omega (arith, same (eqb-true x a e)))
    go false e ih = rw (without_later x a l e) (omega (arith, ih (omega (arith, one_other x a (eqb-false x a e)))))

length_without : (x : ℕ) (l : List ℕ) → 0 < count x l → suc (length (without x l)) ≡ length l
unfolding count
length_without x [] h = absurd (omega arith)
length_without x (a ∷ l) h = go (eqb x a) refl (λ k. length_without x l k)
  where
    go : (t : Bool) → eqb x a ≡ t → (0 < count x l → suc (length (without x l)) ≡ length l) → suc (length (without x (a ∷ l))) ≡ length (a ∷ l)
    go true e ih = rw (without_here x a l e)
    go false e ih = rw (without_later x a l e) (omega (arith, ih (omega (arith, one_other x a (eqb-false x a e)))))

pub counts_full : (a b : List ℕ) → ((y : ℕ) → count y a ≤ count y b) → length b ≤ length a → (y : ℕ) → count y a ≡ count y b
unfolding count
counts_full [] [] h k y = refl
counts_full [] (x ∷ b) h k y = absurd (omega arith)
counts_full (x ∷ a) b h k y =
    let in_b : 0 < count x b = omega (arith, h x, one_same x x refl) in
    let rest : count y a ≡ count y (without x b) =
    counts_full a (without x b) (λ z. omega (arith, h z, count_without x z b in_b)) (omega (arith, length_without x b in_b)) y
    in
    omega (arith, count_without x y b in_b)
