-- The two zeros: nothing, rounded, is a zero, and a zero by any tolerance is in cell 0.
use Prim.Native.Nat.compare
use Prim.Native.Nat.{Ordering}
use Prim.Native.Nat.{ℕ, zero, suc, ◌-◌, ◌*◌, ◌/◌, ◌%◌, ◌^◌, ◌<◌, compare}
use mathlib.Core.Path.{◌≡◌, refl, sym, ap, ap₂, ◌∙◌, subst}
use mathlib.Core.Bool.{Bool, true, false, cond}
use native.Mathlib.Omega.{arith}
use native.Mathlib.Nat.{zero-mul, zero-div, zero-mod, mul-pos}
use borrow.Author.Tests.{ne_eqb}
use lib.Dec.{eqb}
use lib.IntN.{pos}
use lib.Ieee.{Float, nan, inf, fin, binary64, up, down, unlike, div, round, units, odd, nearest, size}
use lib.Ieee.Fits.{up_pos}
use Rattle.rules.specs.Cell.{floor64}

abbrev pub zero_of : Bool → Float
zero_of s = fin s 0 (pos 0)

floor_zero : (s : Bool) → floor64 (zero_of s) ≡ pos 0
unfolding floor64
floor_zero true = refl
floor_zero false = refl

above_zero : (u : ℕ) → 0 < u → compare 0 u ≡ Ordering.lt
above_zero zero h = absurd (omega arith)
above_zero (suc u) h = compare.zero-suc u

nothing : (s : Bool) (c : ℕ) → 0 < c → units binary64 s (nearest (0 / c) (compare (0 % c * 2) c)) 0 ≡ zero_of s
unfolding units odd
nothing s c h =
    let z : 0 % c * 2 ≡ 0 = ap (λ (n : ℕ). n * 2) (zero-mod c) in
    ap (λ (q : ℕ). units binary64 s q 0) (ap₂ nearest (zero-div c) (ap (λ (n : ℕ). compare n c) z ∙ above_zero c h))

size_none : (c : ℕ) → size (0 / c) - 53 ≡ 0
unfolding size
size_none c = rw (zero-div c)

pub round_zero : (s : Bool) (c : ℕ) → 0 < c → round binary64 s 0 c ≡ zero_of s
unfolding round
round_zero s c h =
    subst (λ (k : ℕ). units binary64 s (nearest (0 / (c * 2 ^ k)) (compare (0 % (c * 2 ^ k) * 2) (c * 2 ^ k))) k ≡ zero_of s) (sym (size_none c)) (nothing s (c * 1) (omega arith))

pub round_nothing : (s : Bool) (n c : ℕ) → n ≡ 0 → 0 < c → round binary64 s n c ≡ zero_of s
round_nothing s n c e h = ap (λ (z : ℕ). round binary64 s z c) e ∙ round_zero s c h

-- a zero by anything has the floor 0, or is a NaN, whose floor is 0 as well
pub quotient_zero : (s : Bool) (t : Float) → floor64 (div binary64 (zero_of s) t) ≡ pos 0
unfolding div floor64
quotient_zero s nan = refl
quotient_zero s (inf u) = floor_zero (unlike s u)
quotient_zero s (fin u zero d) = refl
quotient_zero s (fin u (suc n) d) =
    ap (λ (b : Bool). floor64 (cond b (cond (eqb 0 0) nan (inf (unlike s u))) (round binary64 (unlike s u) (0 * up (pos 0) * down d) (suc n * up d * down (pos 0)))))
    (ne_eqb (suc n) 0 (λ e. omega arith))
    ∙ ap floor64
    (round_nothing (unlike s u) (0 * up (pos 0) * down d) (suc n * up d * down (pos 0)) (zero-mul (down d)) (mul-pos (mul-pos (omega arith) (up_pos d)) (omega arith)))
    ∙ floor_zero (unlike s u)
