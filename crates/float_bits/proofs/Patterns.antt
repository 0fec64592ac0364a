-- Which patterns are a finite number's: with the sign's bit taken off, those below the infinity's.
use mathlib.Core.Path.{◌≡◌, refl, sym, ap, ◌∙◌, subst}
use mathlib.Core.Bool.{Bool, true, false, not, cond}
use Prim.Native.Nat.{ℕ, zero, suc, ◌+◌, ◌/◌, ◌%◌, ◌≤◌, ◌<◌, ◌^◌}
use native.Mathlib.Nat.{mod-lt, eq-or-lt_of_le, le_of_suc-le-suc}
use native.Mathlib.Omega.{arith}
use borrow.Author.Tests.{lt-ltb, le-ltb, ltb-true, ltb-false, eq-eqb, ne_eqb}
use mathlib.Core.Logic.{◌⊎◌, inl, inr}
use lib.Dec.{T, leb, eqb, ltb, lit<}
use lib.Ieee.{Float, nan, inf, fin, binary64, odd, of_fields, of_bits, is_nan}
use lib.Ieee.Scale.{finite}
use Rattle.rules.specs.Lists.{one}

odd_finite : (d : ℕ) (s : Bool) (q k l : ℕ) → finite (odd d s q k l) ≡ true
unfolding odd
odd_finite d s zero k l = refl
odd_finite d s (suc q) k l = refl

picked : (a b : Bool) (s : Bool) (v : Float) → finite v ≡ true → finite (cond a (cond b (inf s) nan) v) ≡ not a
picked true true s v h = refl
picked true false s v h = refl
picked false b s v h = h

fields_finite : (s : Bool) (x t : ℕ) → finite (of_fields binary64 s x t) ≡ not (eqb x 2047)
unfolding of_fields
fields_finite s zero t = odd_finite 53 s t 0 1074
fields_finite s (suc x) t =
    picked (eqb (suc x) 2047) (eqb t 0) s (odd 53 s (2 ^ 52 + t) x 1074) (odd_finite 53 s (2 ^ 52 + t) x 1074)

-- the exponent's field is all ones exactly from the infinity's pattern on
split : (r : ℕ) → r < 2 ^ 63 → not (eqb (r / 2 ^ 52) 2047) ≡ ltb r 0x7ff0_0000_0000_0000
split r h = go (r / 2 ^ 52) (small r h) (sides r)
  where
    small : (r : ℕ) → r < 2 ^ 63 → r / 2 ^ 52 < 2048
    small r h = omega arith

    sides : (r : ℕ) → (r / 2 ^ 52 < 2047 → r < 0x7ff0_0000_0000_0000) × (2047 ≤ r / 2 ^ 52 → 0x7ff0_0000_0000_0000 ≤ r)
    sides r = (λ p. omega arith, λ p. omega arith)

    cases : (x : ℕ) → x < 2048 → (x < 2047) ⊎ (x ≡ 2047)
    cases x h = elim (eq-or-lt_of_le (le_of_suc-le-suc h)) [ inl e ↦ inr e | inr l ↦ inl l ]

    go : (x : ℕ) → x < 2048 → (x < 2047 → r < 0x7ff0_0000_0000_0000) × (2047 ≤ x → 0x7ff0_0000_0000_0000 ≤ r)
        → not (eqb x 2047) ≡ ltb r 0x7ff0_0000_0000_0000
    go x b p = elim (cases x b) [
      | inl l ↦ ap not (ne_eqb x 2047 (λ e. omega arith)) ∙ sym (lt-ltb r 0x7ff0_0000_0000_0000 (p.0 l))
      | inr e ↦ ap not (eq-eqb x 2047 e) ∙ sym (le-ltb r 0x7ff0_0000_0000_0000 (p.1 (omega arith)))
    ]

pub finite_below : (n : ℕ) → ltb (n % 2 ^ 63) 0x7ff0_0000_0000_0000 ≡ finite (of_bits binary64 n)
unfolding of_bits
finite_below n =
    sym (fields_finite (leb (2 ^ 63) n) (n % 2 ^ 63 / 2 ^ 52) (n % 2 ^ 52) ∙ split (n % 2 ^ 63) (mod-lt n (lit< tt)))

-- one more in the exponent's lowest place reaches the sign's exactly from the infinity's pattern on
pub wild_is : (n : ℕ) → (n % 2 ^ 63 + 2 ^ 52) / 2 ^ 63 ≡ one (not (finite (of_bits binary64 n)))
wild_is n = go (n % 2 ^ 63) (mod-lt n (lit< tt)) (ltb (n % 2 ^ 63) 0x7ff0_0000_0000_0000) refl ∙ ap (λ (b : Bool). one (not b)) (finite_below n)
  where
    go : (r : ℕ) → r < 2 ^ 63 → (b : Bool) → ltb r 0x7ff0_0000_0000_0000 ≡ b → (r + 2 ^ 52) / 2 ^ 63 ≡ one (not (ltb r 0x7ff0_0000_0000_0000))
    go r h true e = rw e (omega (arith, ltb-true r 0x7ff0_0000_0000_0000 e))
    go r h false e = rw e (omega (arith, ltb-false r 0x7ff0_0000_0000_0000 e))

-- ---- NaNs
pub is_nan_lem : (x : Float) → is_nan x ≡ true → x ≡ nan
unfolding is_nan
is_nan_lem nan e = refl
is_nan_lem (inf s) e = absurd (subst T (sym e) tt)
is_nan_lem (fin s m k) e = absurd (subst T (sym e) tt)

pub the_nan : of_bits binary64 0x7ff8_0000_0000_0000 ≡ nan
unfolding of_bits
the_nan = refl
