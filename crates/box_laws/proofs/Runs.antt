-- Runs of numbers, one behind another, and what is kept of them.
use Prim.Native.Nat.{ℕ, zero, suc, ◌+◌, ◌-◌, ◌≤◌, ◌<◌}
use mathlib.Core.Path.{◌≡◌, refl, sym, ap, ◌∙◌}
use mathlib.Core.Bool.{Bool, true, false}
use mathlib.Core.List.{List, [], ◌∷◌, ◌++◌}
use native.Mathlib.Nat.{add-zero, zero-add}
use native.Mathlib.Omega.{arith}
use Rattle.rules.specs.Lists.{from, upto, keep}
use Rattle.pair_laws.proofs.Lists.{keep_yes, keep_no, keep_append}

pub from_more : (k a b : ℕ) → from k (a + b) ≡ from k a ++ from (k + a) b
unfolding from
from_more k zero b = ap (from k) (zero-add b) ∙ ap (λ (x : ℕ). from x b) (sym (add-zero k))
from_more k (suc a) b =
    let e : suc k + a ≡ k + suc a = omega arith in
    let d : suc a + b ≡ suc (a + b) = omega arith in
    ap (from k) d
    ∙ ap {B = List ℕ} (λ (l : List ℕ). k ∷ l) (from_more (suc k) a b ∙ ap (λ (x : ℕ). from (suc k) a ++ from x b) e)

pub upto_more : (n : ℕ) → upto (n + 1) ≡ upto n ++ (n ∷ [])
unfolding upto from
upto_more n = from_more 0 n 1 ∙ ap {B = List ℕ} (λ (x : ℕ). from 0 n ++ (x ∷ [])) (zero-add n)

-- by two tests that agree
keep_same_from : (t u : ℕ → Bool) (k n : ℕ) → ((i : ℕ) → k ≤ i → i < k + n → t i ≡ u i) → keep t (from k n) ≡ keep u (from k n)
unfolding keep from
keep_same_from t u k zero h = refl
keep_same_from t u k (suc n) h = go (t k) refl (keep_same_from t u (suc k) n (λ i a b. h i (omega arith) (omega arith)))
  where
    same : t k ≡ u k
    same = h k (omega arith) (omega arith)

    go : (b : Bool) → t k ≡ b → keep t (from (suc k) n) ≡ keep u (from (suc k) n) → keep t (k ∷ from (suc k) n) ≡ keep u (k ∷ from (suc k) n)
    go true e r = keep_yes t k (from (suc k) n) e ∙ ap {B = List ℕ} (λ (l : List ℕ). k ∷ l) r ∙ sym (keep_yes u k (from (suc k) n) (sym same ∙ e))
    go false e r = keep_no t k (from (suc k) n) e ∙ r ∙ sym (keep_no u k (from (suc k) n) (sym same ∙ e))

pub keep_same : (t u : ℕ → Bool) (n : ℕ) → ((i : ℕ) → i < n → t i ≡ u i) → keep t (upto n) ≡ keep u (upto n)
unfolding upto
keep_same t u n h = keep_same_from t u 0 n (λ i a b. h i (omega arith))

module _ (t : ℕ → Bool) where
  keep_none_from : (k n : ℕ) → ((j : ℕ) → k ≤ j → j < k + n → t j ≡ false) → keep t (from k n) ≡ []
  unfolding from keep
  keep_none_from k zero h = refl
  keep_none_from k (suc n) h = keep_no t k (from (suc k) n) (h k (omega arith) (omega arith)) ∙ keep_none_from (suc k) n (λ j a b. h j (omega arith) (omega arith))

  -- none
  pub kept_none : (r : ℕ) → ((j : ℕ) → 0 ≤ j → j < r → t j ≡ false) → keep t (upto r) ≡ []
  unfolding upto
  kept_none r h = keep_none_from 0 r (λ j a b. h j a (omega arith))

  -- i, and none behind it
  pub kept_one : (i r : ℕ) → i + 1 ≤ r → t i ≡ true → ((j : ℕ) → i + 1 ≤ j → j < r → t j ≡ false) → keep t (upto r) ≡ keep t (upto i) ++ (i ∷ [])
  unfolding upto from
  kept_one i r l e h =
      let z : r ≡ i + suc (r - (i + 1)) = omega arith in
      ap (λ (x : ℕ). keep t (from 0 x)) z
      ∙ ap (keep t) (from_more 0 i (suc (r - (i + 1))) ∙ ap (λ (x : ℕ). from 0 i ++ from x (suc (r - (i + 1)))) (zero-add i))
      ∙ keep_append t (from 0 i) (i ∷ from (suc i) (r - (i + 1)))
      ∙ ap {B = List ℕ} (λ (x : List ℕ). keep t (from 0 i) ++ x) (keep_yes t i (from (suc i) (r - (i + 1))) e ∙ ap {B = List ℕ} (λ (x : List ℕ). i ∷ x) (keep_none_from (suc i) (r - (i + 1)) (λ j a b. h j (omega arith) (omega arith))))
