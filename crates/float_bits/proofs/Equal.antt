-- Equal numbers by their bits. Numbers are equal where their ranks are, and a rank is read off the bits: so other bits are other numbers, but for the two zeros.
use mathlib.Core.Path.{◌≡◌, refl, sym, ap, ◌∙◌, subst}
use mathlib.Core.Bool.{Bool, true, false, not}
use mathlib.Core.Logic.{◌⊎◌, inl, inr}
use Prim.Native.Nat.{ℕ, ◌+◌, ◌-◌, ◌%◌, ◌≤◌, ◌<◌, ◌^◌}
use native.Mathlib.Omega.{arith}
use native.Mathlib.Decide.{dec_lt}
use borrow.Author.Tests.{ltb-true, ne_eqb}
use lib.Dec.{T, ltb, eqb, eqb→eq}
use lib.Ieee.Fits.{eq→eqb}
use lib.Ieee.{Float, nan, inf, fin, binary64, of_bits, to_bits, eq, is_nan}
use lib.Ieee.Bits.{of_bits-fits, to_bits-of_bits, nan_bits_is, nan_bits_above}
use Rattle.float_order.specs.Rank.{rank}
use Rattle.float_order.proofs.Order.{bool_ext, le_num_l, eq_to_le, antisymm, refl_le}
use Rattle.float_order.proofs.Ranks.{rank_eq_is, rank_low, rank_high}
use Rattle.float_bits.proofs.Patterns.{is_nan_lem}

-- a number equals itself
pub eq_self : (x : Float) → eq x x ≡ not (is_nan x)
eq_self x = bool_ext (eq x x) (not (is_nan x)) (λ h. le_num_l x x (eq_to_le x x h)) (λ n. antisymm x x (refl_le x n) (refl_le x n))

-- ---- a NaN equals nothing

nan_first : (x y : Float) → is_nan x ≡ true → eq x y ≡ false
unfolding eq
nan_first x y e = ap (λ (z : Float). eq z y) (is_nan_lem x e)

beside_nan : (x : Float) → eq x nan ≡ false
unfolding eq
beside_nan nan = refl
beside_nan (inf s) = refl
beside_nan (fin s m e) = refl

nan_second : (x y : Float) → is_nan y ≡ true → eq x y ≡ false
nan_second x y e = ap (eq x) (is_nan_lem y e) ∙ beside_nan x

nan_above : (n : ℕ) → is_nan (of_bits binary64 n) ≡ true → 0 < n % 2 ^ 63
nan_above n e =
    let h : ltb 0x7ff0_0000_0000_0000 (n % 2 ^ 63) ≡ true = sym (nan_bits_above binary64 n) ∙ nan_bits_is binary64 n ∙ e in
    omega (arith, ltb-true)

-- ---- the rank, from the bits

abbrev Ranked : ℕ → ℕ → Type 0
Ranked n r = ((n < 2 ^ 63) × (r ≡ n + 2 ^ 63)) ⊎ ((2 ^ 63 ≤ n) × (r ≡ 2 ^ 63 - (n - 2 ^ 63)))

ranked : (n : ℕ) → n < 2 ^ 64 → T (not (is_nan (of_bits binary64 n))) → Ranked n (rank binary64 (of_bits binary64 n))
ranked n l i =
    let t : to_bits binary64 (of_bits binary64 n) ≡ n = to_bits-of_bits binary64 n l i in
    elim (dec_lt n (2 ^ 63)) [
      | yes h ↦ inl (h, sym (rank_low binary64 (of_bits binary64 n) (of_bits-fits binary64 n) i (rw t h)) ∙ ap (λ (k : ℕ). k + 2 ^ 63) t)
      | no h ↦
          let g : 2 ^ 63 ≤ n = omega arith in
          inr (g, sym (rank_high binary64 (of_bits binary64 n) (of_bits-fits binary64 n) i (rw t g)) ∙ ap (λ (k : ℕ). 2 ^ 63 - (k - 2 ^ 63)) t)
    ]

module _ (a b : ℕ) (a-fits : a < 2 ^ 64) (b-fits : b < 2 ^ 64) (other : a ≡ b → ⊥) where
  zeros : (r s : ℕ) → Ranked a r → Ranked b s → (a % 2 ^ 63 + b % 2 ^ 63 ≡ 0 → r ≡ s) × (r ≡ s → a % 2 ^ 63 + b % 2 ^ 63 ≡ 0)
  zeros r s (inl p) (inl q) = (λ h. omega arith, λ h. absurd (other (omega arith)))
  zeros r s (inl p) (inr q) = (λ h. omega arith, λ h. omega arith)
  zeros r s (inr p) (inl q) = (λ h. omega arith, λ h. omega arith)
  zeros r s (inr p) (inr q) = (λ h. omega arith, λ h. absurd (other (omega arith)))

  zero_ranks : (r s : ℕ) → Ranked a r → Ranked b s → eqb (a % 2 ^ 63 + b % 2 ^ 63) 0 ≡ eqb r s
  zero_ranks r s p q =
      let z = zeros r s p q in
      bool_ext (eqb (a % 2 ^ 63 + b % 2 ^ 63) 0) (eqb r s) (λ h. eq→eqb (z.0 (eqb→eq (a % 2 ^ 63 + b % 2 ^ 63) 0 h))) (λ h. eq→eqb (z.1 (eqb→eq r s h)))

  -- other bits are equal numbers exactly where both are zeros
  pub other_bits : eqb (a % 2 ^ 63 + b % 2 ^ 63) 0 ≡ eq (of_bits binary64 a) (of_bits binary64 b)
  other_bits = go (is_nan (of_bits binary64 a)) (is_nan (of_bits binary64 b)) refl refl
    where
      go : (p q : Bool) → is_nan (of_bits binary64 a) ≡ p → is_nan (of_bits binary64 b) ≡ q → eqb (a % 2 ^ 63 + b % 2 ^ 63) 0 ≡ eq (of_bits binary64 a) (of_bits binary64 b)
      go true q e f = ne_eqb (a % 2 ^ 63 + b % 2 ^ 63) 0 (λ z. omega (arith, nan_above a e)) ∙ sym (nan_first (of_bits binary64 a) (of_bits binary64 b) e)
      go false true e f = ne_eqb (a % 2 ^ 63 + b % 2 ^ 63) 0 (λ z. omega (arith, nan_above b f)) ∙ sym (nan_second (of_bits binary64 a) (of_bits binary64 b) f)
      go false false e f =
          let i : T (not (is_nan (of_bits binary64 a))) = subst (λ (t : Bool). T (not t)) (sym e) tt in
          let j : T (not (is_nan (of_bits binary64 b))) = subst (λ (t : Bool). T (not t)) (sym f) tt in
          zero_ranks (rank binary64 (of_bits binary64 a)) (rank binary64 (of_bits binary64 b)) (ranked a a-fits i) (ranked b b-fits j)
          ∙ sym (rank_eq_is binary64 (of_bits binary64 a) (of_bits binary64 b) (of_bits-fits binary64 a) (of_bits-fits binary64 b) i j)

-- numbers that differ in more than the sign are not equal
pub apart : (a b : ℕ) → a < 2 ^ 64 → b < 2 ^ 64 → (a % 2 ^ 63 ≡ b % 2 ^ 63 → ⊥) → eq (of_bits binary64 a) (of_bits binary64 b) ≡ false
apart a b h k o = sym (other_bits a b h k (λ e. o (ap (λ (n : ℕ). n % 2 ^ 63) e))) ∙ ne_eqb (a % 2 ^ 63 + b % 2 ^ 63) 0 (λ z. o (omega arith))
