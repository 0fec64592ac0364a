-- Totals: a sum over a list, and its length, depend only on what stands in it how often.
use Prim.Native.Nat.{ℕ, ◌+◌, ◌<◌}
use mathlib.Core.Path.{◌≡◌, refl, sym, ◌∙◌}
use mathlib.Core.Logic.{◌≢◌}
use mathlib.Core.Bool.{true, false}
use mathlib.Core.List.{List, [], ◌∷◌, ◌++◌, map}
use native.Mathlib.Omega.{arith}
use native.Mathlib.Decide.{ℕ_discrete}
use lib.Dec.{eqb}
use lib.ListN.{length}
use borrow.Author.Tests.{eq-eqb, ne_eqb}
use Rattle.rules.specs.Lists.{one, count, total}
use Rattle.chain_laws.proofs.Counts.{one_same, one_other}

pub total_append : (s t : List ℕ) → total (s ++ t) ≡ total s + total t
unfolding total
total_append [] t = omega arith
total_append (a ∷ s) t = omega (arith, total_append s t)

remove : ℕ → List ℕ → List ℕ
remove a [] = []
remove a (b ∷ m) = elim (eqb a b) [ true ↦ m | false ↦ b ∷ remove a m ]

remove_here : (a b : ℕ) (m : List ℕ) → a ≡ b → remove a (b ∷ m) ≡ m
unfolding remove
remove_here a b m h = rw (eq-eqb a b h, remove)

remove_there : (a b : ℕ) (m : List ℕ) → a ≢ b → remove a (b ∷ m) ≡ b ∷ remove a m
unfolding remove
remove_there a b m h = rw (ne_eqb a b h, remove)

remove_count : (a x : ℕ) (m : List ℕ) → 0 < count a m → count x m ≡ one (eqb x a) + count x (remove a m)
unfolding count
remove_count a x [] h = absurd (omega arith)
remove_count a x (b ∷ m) h =
    elim (ℕ_discrete a b) [
      | yes q ↦ rw (remove_here a b m q, q)
      | no q ↦ rw (remove_there a b m q) (omega (arith, remove_count a x m (omega (arith, one_other a b q))))
    ]

remove_total : (g : ℕ → ℕ) (a : ℕ) (m : List ℕ) → 0 < count a m → total (map g m) ≡ g a + total (map g (remove a m))
unfolding count total
remove_total g a [] h = absurd (omega arith)
remove_total g a (b ∷ m) h =
    elim (ℕ_discrete a b) [
      | yes q ↦ rw (remove_here a b m q, q)
      | no q ↦ rw (remove_there a b m q) (omega (arith, remove_total g a m (omega (arith, one_other a b q))))
    ]

pub total_same : (g : ℕ → ℕ) (l m : List ℕ) → ((x : ℕ) → count x l ≡ count x m) → total (map g l) ≡ total (map g m)
unfolding count total
total_same g [] [] h = refl
total_same g [] (b ∷ m) h = absurd (omega (arith, h b, one_same b b refl))
total_same g (a ∷ l) m h =
    let i : 0 < count a m = omega (arith, h a, one_same a a refl) in
    omega (arith, remove_total g a m i, total_same g l (remove a m) (λ x. omega (arith, h x, remove_count a x m i)))

ones : (l : List ℕ) → total (map (λ x. 1) l) ≡ length l
unfolding total
ones [] = refl
ones (a ∷ l) = omega (arith, ones l)

pub same_length : (l m : List ℕ) → ((x : ℕ) → count x l ≡ count x m) → length l ≡ length m
same_length l m h = sym (ones l) ∙ total_same (λ x. 1) l m h ∙ ones m
