-- One end more: as long as no node can join ends, none so far can; and one that can decides.
use Prim.Native.Nat.{ℕ, zero, suc, ◌+◌}
use mathlib.Core.Path.{◌≡◌, refl, sym, ap, ◌∙◌}
use mathlib.Core.Bool.{Bool, true, false, cond, not, ◌||◌}
use mathlib.Core.List.{List, [], ◌∷◌, ◌++◌}
use native.Mathlib.Omega.{arith}
use Rattle.std.specs.List.{list_any, range_with_len}
use Rattle.std.proofs.lemmas.List.Folds.{list_any-append}
use Rattle.chain_apart.specs.Apart.{meets_at, apart_to}

-- a range with one number more
range_push : (a n j : ℕ) → a + n ≡ j → range_with_len a (suc n) ≡ range_with_len a n ++ (j ∷ [])
range_push a zero j h = let e : a ≡ j = omega arith in ap (λ (k : ℕ). k ∷ []) e
range_push a (suc n) j h = ap (λ (l : List ℕ). a ∷ l) (range_push (a + 1) n j (omega arith))

not_or : (p q : Bool) → not (p || (q || false)) ≡ cond q false (not p)
not_or true true = refl
not_or true false = refl
not_or false true = refl
not_or false false = refl

module _ (on : Bool) (v : List ℕ) (m : ℕ) where
  to_met : (i : ℕ) → meets_at on v m i ≡ true → apart_to on v m (suc i) ≡ false
  unfolding apart_to
  to_met i h = rw (h, apart_to)

  to_next : (i : ℕ) → meets_at on v m i ≡ false → apart_to on v m (suc i) ≡ apart_to on v m i
  unfolding apart_to
  to_next i h = rw (h, apart_to)

  -- whether any of the first i can
  pub apart_any : (i : ℕ) → not (list_any (meets_at on v m) (range_with_len 0 i)) ≡ apart_to on v m i
  unfolding apart_to
  apart_any zero = refl
  apart_any (suc i) =
      ap (λ l. not (list_any (meets_at on v m) l)) (range_push 0 i i (omega arith))
      ∙ ap not (list_any-append (meets_at on v m) (range_with_len 0 i) (i ∷ []))
      ∙ not_or (list_any (meets_at on v m) (range_with_len 0 i)) (meets_at on v m i)
      ∙ go (meets_at on v m i) refl (apart_any i)
    where
      go : (b : Bool) → meets_at on v m i ≡ b → not (list_any (meets_at on v m) (range_with_len 0 i)) ≡ apart_to on v m i
          → cond (meets_at on v m i) false (not (list_any (meets_at on v m) (range_with_len 0 i))) ≡ apart_to on v m (suc i)
      go true q h = ap (λ (b : Bool). cond b false (not (list_any (meets_at on v m) (range_with_len 0 i)))) q ∙ sym (to_met i q)
      go false q h = ap (λ (b : Bool). cond b false (not (list_any (meets_at on v m) (range_with_len 0 i)))) q ∙ h ∙ sym (to_next i q)

  -- none of several
  pub apart_parts : (i : ℕ) → apart_to on v m (suc i) ≡ true → (meets_at on v m i ≡ false) × (apart_to on v m i ≡ true)
  apart_parts i h = go (meets_at on v m i) refl
    where
      go : (b : Bool) → meets_at on v m i ≡ b → (meets_at on v m i ≡ false) × (apart_to on v m i ≡ true)
      go true q = let z : ◌≡◌ {A = Bool} true false = sym h ∙ to_met i q in let y : ◌≡◌ {A = ℕ} 0 1 = cc in absurd (omega arith)
      go false q = (q, sym (to_next i q) ∙ h)
