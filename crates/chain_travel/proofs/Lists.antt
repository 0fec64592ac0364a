-- Lists that other lists make: the same ones from functions that are the same where it matters, and turned ones.
use Prim.Native.Nat.{ℕ, ◌<◌}
use mathlib.Core.Path.{◌≡◌, refl, sym, ap, ap₂, ◌∙◌}
use mathlib.Core.List.{List, [], ◌∷◌, ◌++◌, map, map-append, flat_map, reverse, reverse-cons, reverse-append, append-nil}
use native.Mathlib.Omega.{arith}
use Rattle.rules.specs.Lists.{count}
use Rattle.chain_laws.proofs.Counts.{one_same}
use Rattle.chain_laws.proofs.Lines.{flat_map_append}

module _ {A : Type 0} where
  pub flat_map_same : (f g : ℕ → List A) (l : List ℕ) → ((k : ℕ) → 0 < count k l → f k ≡ g k) → flat_map f l ≡ flat_map g l
  unfolding flat_map count
  flat_map_same f g [] h = refl
  flat_map_same f g (a ∷ l) h = ap₂ ◌++◌ (h a (omega (arith, one_same a a refl))) (flat_map_same f g l (λ k i. h k (omega arith)))

  pub flat_map_reverse : {B : Type 0} (f : B → List A) (l : List B) → reverse (flat_map f l) ≡ flat_map (λ b. reverse (f b)) (reverse l)
  unfolding flat_map
  flat_map_reverse f [] = refl
  flat_map_reverse f (b ∷ l) =
      reverse-append (f b) (flat_map f l)
      ∙ ap₂ ◌++◌ (flat_map_reverse f l) (sym (append-nil (reverse (f b))))
      ∙ sym (ap (flat_map (λ b. reverse (f b))) (reverse-cons b l) ∙ flat_map_append (λ b. reverse (f b)) (reverse l) (b ∷ []))

  pub map_flat_map : {B C : Type 0} (g : A → C) (f : B → List A) (l : List B) → map g (flat_map f l) ≡ flat_map (λ b. map g (f b)) l
  unfolding flat_map
  map_flat_map g f [] = refl
  map_flat_map g f (b ∷ l) = map-append g (f b) (flat_map f l) ∙ ap (λ (r : List _). map g (f b) ++ r) (map_flat_map g f l)
