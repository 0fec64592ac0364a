-- Two words or five stored in a row, and read back.
use Prim.Native.Nat.{ℕ, ◌+◌, ◌<◌}
use mathlib.Core.Path.{◌≡◌, sym, ap, ap₂, ◌∙◌, subst}
use mathlib.Core.Bool.{Bool, not}
use mathlib.Core.List.{List}
use native.Mathlib.Omega.{arith}
use lib.Dec.{T}
use lib.ListN.{get_or, length, set, length-set}
use lib.Seq.{get_or-set_same, get_or-set_other}
use lib.Ieee.{binary64, of_bits, to_bits, nan_bits, fits}
use lib.Ieee.Bits.{nan_bits_is, of_bits-to_bits}
use lib.Ieee.Scale.{finite}
use Rattle.float_order.proofs.Order.{finite_num}
use Rattle.pair_bounds.specs.declared.Bounds.{Bounds}
use Rattle.pair_bounds.specs.Box.{Sound}
use Rattle.pair_bounds.specs.Reading.{bounds_at, place_at}
use Rattle.pair_bounds.specs.Search.{place}
use Rattle.pair_tree.specs.Words.{Changes}
use Rattle.pair_tree.proofs.Words.{changes_then, changes_set}

-- ---- two

module _ (l : List ℕ) (k a b : ℕ) where
  abbrev pub two : List ℕ
  two = set (set l k a) (k + 1) b

  pub place_back : k + 1 < length l → place_at two k ≡ place a b
  unfolding place_at
  place_back h =
      ap₂ place (get_or-set_other (set l k a) (k + 1) k b 0 (omega arith) ∙ get_or-set_same l k a 0 (omega arith))
      (get_or-set_same (set l k a) (k + 1) b 0 (simp length-set h))

-- ---- five

module _ (l : List ℕ) (k a b c d e : ℕ) where
  abbrev pub five : List ℕ
  five = set (set (set (set (set l k a) (k + 1) b) (k + 2) c) (k + 3) d) (k + 4) e

  five_changes : Changes l five k (k + 5)
  five_changes =
      changes_then (changes_set l k a k (k + 5) (omega arith) (omega arith))
      (changes_then (changes_set (set l k a) (k + 1) b k (k + 5) (omega arith) (omega arith))
      (changes_then (changes_set (set (set l k a) (k + 1) b) (k + 2) c k (k + 5) (omega arith) (omega arith))
      (changes_then (changes_set (set (set (set l k a) (k + 1) b) (k + 2) c) (k + 3) d k (k + 5) (omega arith) (omega arith))
      (changes_set (set (set (set (set l k a) (k + 1) b) (k + 2) c) (k + 3) d) (k + 4) e k (k + 5) (omega arith) (omega arith)))))

  module _ (h : k + 4 < length l) where
    five_0 : get_or five k 0 ≡ a
    five_0 =
        get_or-set_other (set (set (set (set l k a) (k + 1) b) (k + 2) c) (k + 3) d) (k + 4) k e 0 (omega arith)
        ∙ get_or-set_other (set (set (set l k a) (k + 1) b) (k + 2) c) (k + 3) k d 0 (omega arith)
        ∙ get_or-set_other (set (set l k a) (k + 1) b) (k + 2) k c 0 (omega arith)
        ∙ get_or-set_other (set l k a) (k + 1) k b 0 (omega arith)
        ∙ get_or-set_same l k a 0 (omega arith)

    five_1 : get_or five (k + 1) 0 ≡ b
    five_1 =
        get_or-set_other (set (set (set (set l k a) (k + 1) b) (k + 2) c) (k + 3) d) (k + 4) (k + 1) e 0 (omega arith)
        ∙ get_or-set_other (set (set (set l k a) (k + 1) b) (k + 2) c) (k + 3) (k + 1) d 0 (omega arith)
        ∙ get_or-set_other (set (set l k a) (k + 1) b) (k + 2) (k + 1) c 0 (omega arith)
        ∙ get_or-set_same (set l k a) (k + 1) b 0 (simp length-set (omega arith))

    five_2 : get_or five (k + 2) 0 ≡ c
    five_2 =
        get_or-set_other (set (set (set (set l k a) (k + 1) b) (k + 2) c) (k + 3) d) (k + 4) (k + 2) e 0 (omega arith)
        ∙ get_or-set_other (set (set (set l k a) (k + 1) b) (k + 2) c) (k + 3) (k + 2) d 0 (omega arith)
        ∙ get_or-set_same (set (set l k a) (k + 1) b) (k + 2) c 0 (simp length-set (omega arith))

    five_3 : get_or five (k + 3) 0 ≡ d
    five_3 =
        get_or-set_other (set (set (set (set l k a) (k + 1) b) (k + 2) c) (k + 3) d) (k + 4) (k + 3) e 0 (omega arith)
        ∙ get_or-set_same (set (set (set l k a) (k + 1) b) (k + 2) c) (k + 3) d 0 (simp length-set (omega arith))

    five_4 : get_or five (k + 4) 0 ≡ e
    five_4 = get_or-set_same (set (set (set (set l k a) (k + 1) b) (k + 2) c) (k + 3) d) (k + 4) e 0 (simp length-set (omega arith))

-- ---- a box

no_nan : (n : ℕ) → T (finite (of_bits binary64 n)) → T (not (nan_bits binary64 n))
no_nan n f = subst (λ (b : Bool). T (not b)) (sym (nan_bits_is binary64 n)) (finite_num (of_bits binary64 n) f)

pub record Numbers (w : List ℕ) (k : ℕ) : Type 0 where
  pub from_low_x : T (not (nan_bits binary64 (get_or w k 0)))
  pub from_low_y : T (not (nan_bits binary64 (get_or w (k + 1) 0)))
  pub to_high_x : T (not (nan_bits binary64 (get_or w (k + 2) 0)))
  pub to_high_y : T (not (nan_bits binary64 (get_or w (k + 3) 0)))

pub numbers : (w : List ℕ) (k : ℕ) → Sound (bounds_at w k) → Numbers w k
unfolding bounds_at
numbers w k s =
    record {
      from_low_x = no_nan _ s.low_x_finite;
      from_low_y = no_nan _ s.low_y_finite;
      to_high_x = no_nan _ s.high_x_finite;
      to_high_y = no_nan _ s.high_y_finite;
    }

pub record Fits (b : Bounds) : Type 0 where
  pub from_low_x : T (fits binary64 b.low_x)
  pub from_low_y : T (fits binary64 b.low_y)
  pub to_high_x : T (fits binary64 b.high_x)
  pub to_high_y : T (fits binary64 b.high_y)

pub bounds_back : (l : List ℕ) (k : ℕ) (b : Bounds) → k + 4 < length l → Fits b
    → bounds_at (five l k (to_bits binary64 b.low_x) (to_bits binary64 b.low_y) (to_bits binary64 b.high_x) (to_bits binary64 b.high_y) b.first) k ≡ b
unfolding bounds_at
bounds_back l k b h f = λ i. record { low_x = low_x i; low_y = low_y i; high_x = high_x i; high_y = high_y i; first = first i }
  where
    w : List ℕ
    w = five l k (to_bits binary64 b.low_x) (to_bits binary64 b.low_y) (to_bits binary64 b.high_x) (to_bits binary64 b.high_y) b.first

    low_x : of_bits binary64 (get_or w k 0) ≡ b.low_x
    low_x = ap (of_bits binary64) (five_0 l k _ _ _ _ _ h) ∙ of_bits-to_bits binary64 b.low_x f.from_low_x

    low_y : of_bits binary64 (get_or w (k + 1) 0) ≡ b.low_y
    low_y = ap (of_bits binary64) (five_1 l k _ _ _ _ _ h) ∙ of_bits-to_bits binary64 b.low_y f.from_low_y

    high_x : of_bits binary64 (get_or w (k + 2) 0) ≡ b.high_x
    high_x = ap (of_bits binary64) (five_2 l k _ _ _ _ _ h) ∙ of_bits-to_bits binary64 b.high_x f.to_high_x

    high_y : of_bits binary64 (get_or w (k + 3) 0) ≡ b.high_y
    high_y = ap (of_bits binary64) (five_3 l k _ _ _ _ _ h) ∙ of_bits-to_bits binary64 b.high_y f.to_high_y

    first : get_or w (k + 4) 0 ≡ b.first
    first = five_4 l k _ _ _ _ _ h
