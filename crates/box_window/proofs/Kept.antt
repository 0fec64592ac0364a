-- What is kept of the numbers up to a bound, where the bound moves on.
use Prim.Native.Nat.{ℕ, zero, suc, ◌+◌, ◌-◌, ◌≤◌, ◌<◌}
use mathlib.Core.Path.{◌≡◌, ap, ◌∙◌}
use mathlib.Core.Bool.{Bool, true, false}
use mathlib.Core.List.{List, [], ◌∷◌, ◌++◌, append-nil}
use native.Mathlib.Omega.{arith}
use Rattle.rules.specs.Lists.{upto, keep}
use Rattle.pair_laws.proofs.Lists.{keep_no, keep_append}
use Rattle.box_laws.proofs.Runs.{upto_more, kept_one}

module _ (t : ℕ → Bool) where
  past : (a n : ℕ) → ((c : ℕ) → a ≤ c → c < a + n → t c ≡ false) → keep t (upto (a + n)) ≡ keep t (upto a)
  unfolding keep
  past a zero h = let z : a + zero ≡ a = omega arith in ap (λ (x : ℕ). keep t (upto x)) z
  past a (suc n) h =
      let z : a + suc n ≡ a + n + 1 = omega arith in
      ap (λ (x : ℕ). keep t (upto x)) z
      ∙ ap (keep t) (upto_more (a + n))
      ∙ keep_append t (upto (a + n)) ((a + n) ∷ [])
      ∙ ap {B = List ℕ} (λ (l : List ℕ). keep t (upto (a + n)) ++ l) (keep_no t (a + n) [] (h (a + n) (omega arith) (omega arith)))
      ∙ append-nil (keep t (upto (a + n)))
      ∙ past a n (λ c p q. h c p (omega arith))

  -- none from a on is kept
  pub kept_past : (a b : ℕ) → a ≤ b → ((c : ℕ) → a ≤ c → c < b → t c ≡ false) → keep t (upto b) ≡ keep t (upto a)
  kept_past a b l h = let z : b ≡ a + (b - a) = omega arith in ap (λ (x : ℕ). keep t (upto x)) z ∙ past a (b - a) (λ c p q. h c p (omega arith))

  -- a is kept
  pub kept_next : (a : ℕ) → t a ≡ true → keep t (upto (a + 1)) ≡ keep t (upto a) ++ (a ∷ [])
  kept_next a e = kept_one t a (a + 1) (omega arith) e (λ c p q. absurd (omega arith))
