-- What the library's `any`, `all` and `==` answer, as the tests of a row.
use Prim.Native.Nat.{ℕ, zero, suc}
use native.Mathlib.Numerals.{add-one}
use mathlib.Core.Path.{◌≡◌, refl, ap, ◌∙◌}
use mathlib.Core.Bool.{Bool, true, false, ◌&&◌, ◌||◌}
use mathlib.Core.List.{List, [], ◌∷◌}
use Rattle.std.specs.List.{list_any, list_all, range_with_len}
use Rattle.rules.specs.Lists.{any_of, all_of, from, upto}

module _ {A : Type 0} (t : A → Bool) where
  pub any_is : (l : List A) → list_any t l ≡ any_of t l
  unfolding any_of
  any_is [] = refl
  any_is (a ∷ l) = go (t a) (any_is l)
    where
      go : (b : Bool) → list_any t l ≡ any_of t l → (b || list_any t l) ≡ elim b [ true ↦ true | false ↦ any_of t l ]
      go true e = refl
      go false e = e

  pub all_is : (l : List A) → list_all t l ≡ all_of t l
  unfolding all_of
  all_is [] = refl
  all_is (a ∷ l) = go (t a) (all_is l)
    where
      go : (b : Bool) → list_all t l ≡ all_of t l → (b && list_all t l) ≡ elim b [ true ↦ all_of t l | false ↦ false ]
      go true e = e
      go false e = refl

-- the numbers below n, as the library lists them
from_is : (k n : ℕ) → range_with_len k n ≡ from k n
unfolding from
from_is k zero = refl
from_is k (suc n) = ap {B = List ℕ} (λ (l : List ℕ). k ∷ l) (ap (λ (i : ℕ). range_with_len i n) (add-one k) ∙ from_is (suc k) n)

pub any_upto : (t : ℕ → Bool) (n : ℕ) → list_any t (range_with_len 0 n) ≡ any_of t (upto n)
unfolding upto
any_upto t n = any_is t (range_with_len 0 n) ∙ ap (any_of t) (from_is 0 n)
