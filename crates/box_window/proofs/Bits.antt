-- The bits of numbers from zero on are in order as the numbers are: the rank of such a number is its bits above the sign's weight.
use Prim.Native.Nat.{ℕ, ◌+◌, ◌-◌, ◌%◌, ◌^◌, ◌≤◌, ◌<◌}
use mathlib.Core.Path.{◌≡◌, refl, sym, ap, ap₂, ◌∙◌, subst}
use mathlib.Core.Bool.{Bool, true, false, not}
use mathlib.Core.Logic.{◌⊎◌, inl, inr}
use native.Mathlib.Omega.{arith}
use native.Mathlib.Decide.{dec_lt}
use borrow.Author.Tests.{le-leb, lt-leb, lt-ltb, le-ltb}
use lib.Dec.{T, leb, ltb, leb→le, le→leb, ltb→lt, lt→ltb}
use lib.Ieee.{Float, nan, binary64, le, is_nan, fits, to_bits}
use lib.Ieee.Bits.{nan_bits_is, nan_bits_above, of_bits-fits, to_bits-of_bits}
use Rattle.rules.specs.Plane.{float}
use Rattle.float_order.specs.Rank.{rank}
use Rattle.float_order.specs.Key.{key, low_key}
use Rattle.float_order.proofs.Order.{bool_ext, le_num_r}
use Rattle.float_order.proofs.Ranks.{rank_low, rank_le_is, rank_at_most}
use Rattle.float_order.proofs.Keys.{nan_or_num, key_num, low_key_num, key_le_is}
use Rattle.rules.specs.Windows.{overlap}
use Rattle.box_window.proofs.Tests.{overlap_last, overlap_behind, overlap_ahead}
use Rattle.box_window.specs.Bounds.{infinite, AtLeast, AtMost}

-- ---- numbers from zero on
module _ (n : ℕ) (h : n ≤ infinite) where
  number : T (not (is_nan (float n)))
  number = subst (λ (b : Bool). T (not b)) (sym (le-ltb infinite (n % 2 ^ 63) (omega arith)) ∙ sym (nan_bits_above binary64 n) ∙ nan_bits_is binary64 n) tt

  rank_bits : rank binary64 (float n) ≡ n + 2 ^ 63
  rank_bits =
      let e : to_bits binary64 (float n) ≡ n = to_bits-of_bits binary64 n (omega arith) number in
      sym (rank_low binary64 (float n) (of_bits-fits binary64 n) number (omega (arith, e))) ∙ ap (λ (x : ℕ). x + 2 ^ 63) e

pub bits_le : (m n : ℕ) → m ≤ infinite → n ≤ infinite → le (float m) (float n) ≡ leb m n
bits_le m n h k =
    rank_le_is binary64 (float m) (float n) (of_bits-fits binary64 m) (of_bits-fits binary64 n) (number m h) (number n k)
    ∙ ap₂ leb (rank_bits m h) (rank_bits n k)
    ∙ bool_ext (leb (m + 2 ^ 63) (n + 2 ^ 63)) (leb m n) (λ t. le→leb m n (omega (arith, leb→le (m + 2 ^ 63) (n + 2 ^ 63) t))) (λ t. le→leb (m + 2 ^ 63) (n + 2 ^ 63) (omega (arith, leb→le m n t)))

-- ---- a bound
low_key_nan : (x : Float) → x ≡ nan → low_key x ≡ 0
unfolding low_key is_nan
low_key_nan x e = ap low_key e

nan_is : T (not (is_nan nan)) → ⊥
unfolding is_nan
nan_is t = t

le_nan : (x y : Float) → y ≡ nan → le x y ≡ false
le_nan x y e = go (le x y) refl
  where
    go : (b : Bool) → le x y ≡ b → b ≡ false
    go false d = refl
    go true d = absurd (nan_is (subst (λ (z : Float). T (not (is_nan z))) e (le_num_r x y (subst T (sym d) tt))))

module _ (x : Float) (p : T (fits binary64 x)) where
  key_decides : (n : ℕ) → n ≤ infinite → le x (float n) ≡ leb (key x) (n + 2 ^ 63)
  key_decides n h = key_le_is x (float n) p (of_bits-fits binary64 n) (number n h) ∙ ap (leb (key x)) (key_num (float n) (number n h) ∙ rank_bits n h)

  from_all : (k : ℕ) → k ≡ key x → k < 2 ^ 63 → AtLeast x 0
  from_all k e l = record { decides = λ n h. key_decides n h ∙ le-leb (key x) (n + 2 ^ 63) (omega arith) ∙ sym (le-leb 0 n (omega arith)) }

  from_some : (k : ℕ) → k ≡ key x → 2 ^ 63 ≤ k → AtLeast x (k - 2 ^ 63)
  from_some k e l = record {
    decides = λ n h. key_decides n h ∙ bool_ext (leb (key x) (n + 2 ^ 63)) (leb (k - 2 ^ 63) n)
        (λ t. le→leb (k - 2 ^ 63) n (omega (arith, leb→le (key x) (n + 2 ^ 63) t)))
        (λ t. le→leb (key x) (n + 2 ^ 63) (omega (arith, leb→le (k - 2 ^ 63) n t)));
  }

  pub from_key : (k r : ℕ) → k ≡ key x → r ≡ k - 2 ^ 63 → AtLeast x r
  from_key k r e d =
      elim (dec_lt k (2 ^ 63)) [
        | yes l ↦ let z : r ≡ 0 = omega arith in rw z (from_all k e l)
        | no l ↦ rw d (from_some k e (omega arith))
      ]

  low_key_decides : (n : ℕ) → n ≤ infinite → le (float n) x ≡ leb (n + 2 ^ 63) (low_key x)
  low_key_decides n h = go (nan_or_num x)
    where
      go : (x ≡ nan) ⊎ T (not (is_nan x)) → le (float n) x ≡ leb (n + 2 ^ 63) (low_key x)
      go (inl e) = le_nan (float n) x e ∙ sym (lt-leb (n + 2 ^ 63) (low_key x) (omega (arith, low_key_nan x e)))
      go (inr i) = rank_le_is binary64 (float n) x (of_bits-fits binary64 n) p (number n h) i ∙ ap₂ leb (rank_bits n h) (sym (low_key_num x i))

  upto_none : (k : ℕ) → k ≡ low_key x → k < 2 ^ 63 → AtMost x 0
  upto_none k e l = record { decides = λ n h. low_key_decides n h ∙ lt-leb (n + 2 ^ 63) (low_key x) (omega arith) ∙ sym (le-ltb n 0 (omega arith)); most = omega arith }

  upto_some : (k : ℕ) → k ≡ low_key x → 2 ^ 63 ≤ k → AtMost x (k - 2 ^ 63 + 1)
  upto_some k e l = record {
    decides = λ n h. low_key_decides n h ∙ bool_ext (leb (n + 2 ^ 63) (low_key x)) (ltb n (k - 2 ^ 63 + 1))
        (λ t. lt→ltb n (k - 2 ^ 63 + 1) (omega (arith, leb→le (n + 2 ^ 63) (low_key x) t)))
        (λ t. le→leb (n + 2 ^ 63) (low_key x) (omega (arith, ltb→lt n (k - 2 ^ 63 + 1) t)));
    most = omega (arith, highest (nan_or_num x));
  }
    where
      highest : (x ≡ nan) ⊎ T (not (is_nan x)) → low_key x ≤ 2 ^ 63 + infinite
      highest (inl e) = omega (arith, low_key_nan x e)
      highest (inr i) = omega (arith, low_key_num x i, rank_at_most binary64 x p)

  pub upto_key : (k r : ℕ) → k ≡ low_key x → r ≡ k - 9223372036854775807 → AtMost x r
  upto_key k r e d =
      elim (dec_lt k (2 ^ 63)) [
        | yes l ↦ let z : r ≡ 0 = omega arith in rw z (upto_none k e l)
        | no l ↦ let z : r ≡ k - 2 ^ 63 + 1 = omega arith in rw z (upto_some k e (omega arith))
      ]

-- ---- along x or along y
module _ (low high : ℕ) (from to : Float) (first past : ℕ) (f : AtLeast from first) (u : AtMost to past) where
  pub touch_last : high ≤ infinite → low < past → first ≤ high → leb low high ≡ overlap (float low) (float high) from to
  touch_last h l k =
      let i : low ≤ infinite = omega (arith, u.most) in
      sym (bits_le low high i h) ∙ overlap_last (float low) (float high) from to (u.decides low i ∙ lt-ltb low past l) (f.decides high h ∙ le-leb first high k)

  pub touch_behind : high ≤ infinite → low < past → high < first → false ≡ overlap (float low) (float high) from to
  touch_behind h l k =
      let i : low ≤ infinite = omega (arith, u.most) in
      overlap_behind (float low) (float high) from to (u.decides low i ∙ lt-ltb low past l) (f.decides high h ∙ lt-leb first high k)

  pub touch_ahead : past ≤ low → low ≤ infinite → false ≡ overlap (float low) (float high) from to
  touch_ahead l i = overlap_ahead (float low) (float high) from to (u.decides low i ∙ le-ltb low past l)
