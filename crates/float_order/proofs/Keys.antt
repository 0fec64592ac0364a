-- Keys decide as floats do. For a number v, as a limit and the best so far are, and any m, the tests `le`, `lt` and `eq` of m and v are those of their keys;
-- and where a bound c is at most m whenever both are numbers, the low key of c is at most the key of m: no case of a NaN is left in it.
-- True since ranks are in the order of numbers, and a NaN's keys are beyond every rank on the side where nothing goes wrong.
use mathlib.Core.Path.{◌≡◌, refl, sym, ap, ap₂, ◌∙◌}
use mathlib.Core.Logic.{◌⊎◌, inl, inr}
use Prim.Native.Nat.{◌≤◌, ◌<◌}
use native.Mathlib.Omega.{arith}
use mathlib.Core.Bool.{false, not}
use lib.Dec.{T, leb, ltb, eqb, leb→le, ltb→lt, eqb→eq}
use lib.Ieee.{Float, nan, inf, fin, binary64, lt, eq, le, is_nan, fits}
use Rattle.float_order.specs.Rank.{rank}
use Rattle.float_order.specs.Key.{key_nan, key, low_key}
use Rattle.float_order.proofs.Order.{bool_ext}
use Rattle.float_order.proofs.Ranks.{le_to_rank, rank_at_most, rank_le_is, rank_lt_is, rank_eq_is}

-- ---- the greatest key is above every number's
pub rank_under : (x : Float) → T (fits binary64 x) → rank binary64 x < key_nan
rank_under x p = omega (arith, rank_at_most binary64 x p)

pub nan_or_num : (x : Float) → (x ≡ nan) ⊎ T (not (is_nan x))
unfolding is_nan
nan_or_num nan = inl refl
nan_or_num (inf s) = inr tt
nan_or_num (fin s m e) = inr tt

pub key_num : (x : Float) → T (not (is_nan x)) → key x ≡ rank binary64 x
unfolding key is_nan
key_num nan p = absurd p
key_num (inf s) p = refl
key_num (fin s m e) p = refl

pub low_key_num : (x : Float) → T (not (is_nan x)) → low_key x ≡ rank binary64 x
unfolding low_key is_nan
low_key_num nan p = absurd p
low_key_num (inf s) p = refl
low_key_num (fin s m e) p = refl

key_of_nan : key nan ≡ key_nan
unfolding key is_nan
key_of_nan = refl

low_key_of_nan : low_key nan ≡ 0
unfolding low_key is_nan
low_key_of_nan = refl

-- ---- the tests of a search, on keys: v is a number, as a limit and the best so far are
module _ (m v : Float) (p : T (fits binary64 m)) (q : T (fits binary64 v)) (n : T (not (is_nan v))) where
  pub key_le_is : le m v ≡ leb (key m) (key v)
  unfolding le
  key_le_is = go (nan_or_num m)
    where
      go : (m ≡ nan) ⊎ T (not (is_nan m)) → le m v ≡ leb (key m) (key v)
      go (inl e) = rw (e, key_of_nan, key_num v n) (bool_ext false _ (λ h. absurd h) (λ h. omega (arith, leb→le, rank_under v q)))
      go (inr i) = rank_le_is binary64 m v p q i n ∙ sym (ap₂ leb (key_num m i) (key_num v n))

  pub key_lt_is : lt m v ≡ ltb (key m) (key v)
  unfolding lt
  key_lt_is = go (nan_or_num m)
    where
      go : (m ≡ nan) ⊎ T (not (is_nan m)) → lt m v ≡ ltb (key m) (key v)
      go (inl e) = rw (e, key_of_nan, key_num v n) (bool_ext false _ (λ h. absurd h) (λ h. omega (arith, ltb→lt, rank_under v q)))
      go (inr i) = rank_lt_is binary64 m v p q i n ∙ sym (ap₂ ltb (key_num m i) (key_num v n))

  pub key_eq_is : eq m v ≡ eqb (key m) (key v)
  unfolding eq
  key_eq_is = go (nan_or_num m)
    where
      go : (m ≡ nan) ⊎ T (not (is_nan m)) → eq m v ≡ eqb (key m) (key v)
      go (inl e) = rw (e, key_of_nan, key_num v n) (bool_ext false _ (λ h. absurd h) (λ h. omega (arith, eqb→eq, rank_under v q)))
      go (inr i) = rank_eq_is binary64 m v p q i n ∙ sym (ap₂ eqb (key_num m i) (key_num v n))

-- ---- a bound
pub low_key_bound : (c m : Float) → T (fits binary64 c) → T (fits binary64 m) → (T (not (is_nan c)) → T (not (is_nan m)) → T (le c m))
    → low_key c ≤ key m
low_key_bound c m p q h = go (nan_or_num c) (nan_or_num m)
  where
    go : (c ≡ nan) ⊎ T (not (is_nan c)) → (m ≡ nan) ⊎ T (not (is_nan m)) → low_key c ≤ key m
    go (inl e) j = rw (e, low_key_of_nan) (omega arith)
    go (inr i) (inl e) = rw (e, key_of_nan, low_key_num c i) (omega (arith, rank_under c p))
    go (inr i) (inr j) = rw (low_key_num c i, key_num m j) (le_to_rank binary64 c m p q (h i j))

-- ---- every key is below 2 ^ 64
pub key_most : (x : Float) → T (fits binary64 x) → key x ≤ key_nan
key_most x p = go (nan_or_num x)
  where
    go : (x ≡ nan) ⊎ T (not (is_nan x)) → key x ≤ key_nan
    go (inl e) = omega (arith, ap key e ∙ key_of_nan)
    go (inr i) = omega (arith, key_num x i, rank_under x p)

pub low_key_most : (x : Float) → T (fits binary64 x) → low_key x ≤ key_nan
low_key_most x p = go (nan_or_num x)
  where
    go : (x ≡ nan) ⊎ T (not (is_nan x)) → low_key x ≤ key_nan
    go (inl e) = omega (arith, ap low_key e ∙ low_key_of_nan)
    go (inr i) = omega (arith, low_key_num x i, rank_under x p)
