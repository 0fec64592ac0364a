-- Equal numbers have one cell, whatever the tolerance and the origin: two doubles that are equal by `==` are one, or both are zeros, and a zero less an
-- origin differs by its sign at most, which no cell shows.
use Prim.Native.Nat.{ℕ, zero, suc, ◌+◌, ◌-◌, ◌*◌, ◌<◌}
use mathlib.Core.Path.{◌≡◌, refl, sym, ap, ◌∙◌, subst}
use mathlib.Core.Bool.{Bool, true, false, ◌||◌, beq, and-eq-true_iff}
use mathlib.Core.Logic.{◌⊎◌, inl, inr}
use native.Mathlib.Omega.{arith}
use native.Mathlib.Nat.{zero-mul, mul-pos}
use borrow.Author.Tests.{lt-ltb, eqb-true}
use lib.Dec.{T, eqb}
use lib.IntN.{ℤ, pos}
use lib.Ieee.{Float, nan, inf, fin, binary64, up, down, neg, sum, add, sub, div, round, fits, eq, level}
use lib.Ieee.Bits.{of_bits-fits}
use lib.Ieee.Fits.{up_pos, down_pos}
use Rattle.rules.specs.Cell.{floor64, cell}
use Rattle.rules.specs.Plane.{float}
use Rattle.chain_origins.proofs.Zeros.{zero_of, round_zero, quotient_zero}
use Rattle.chain_origins.proofs.Values.{value_only}
use Rattle.chain_origins.proofs.Cells.{held_zero}

-- ---- a zero less an origin

module _ (t : Float) where
  abbrev cell_of : Float → ℤ
  cell_of x = floor64 (div binary64 x t)

  -- a zero of either sign, with b / c of the sign u added
  zero_sum : (u : Bool) (b c : ℕ) → 0 < c → cell_of (sum binary64 false 0 u b c) ≡ cell_of (sum binary64 true 0 u b c)
  unfolding sum
  zero_sum false zero c h = refl
  zero_sum true zero c h = ap cell_of (round_zero false c h) ∙ quotient_zero false t ∙ sym (ap cell_of (round_zero true c h) ∙ quotient_zero true t)
  zero_sum false (suc b) c h =
      let e : 0 + suc b ≡ suc b - 0 = omega arith in
      rw (lt-ltb 0 (suc b) (omega arith)) (ap (λ (n : ℕ). cell_of (round binary64 false n c)) e)
  zero_sum true (suc b) c h =
      let e : suc b - 0 ≡ 0 + suc b = omega arith in
      rw (lt-ltb 0 (suc b) (omega arith)) (ap (λ (n : ℕ). cell_of (round binary64 true n c)) e)

  zero_add : (o : Float) → cell_of (add binary64 (zero_of false) o) ≡ cell_of (add binary64 (zero_of true) o)
  unfolding add
  zero_add nan = refl
  zero_add (inf u) = refl
  zero_add (fin u n d) =
      let z : 0 * up (pos 0) * down d ≡ 0 = zero-mul (down d) in
      ap (λ (a : ℕ). cell_of (sum binary64 false a u (n * up d * down (pos 0)) (down (pos 0) * down d))) z
      ∙ zero_sum u (n * up d * down (pos 0)) (down (pos 0) * down d) (mul-pos (omega arith) (down_pos d))
      ∙ ap (λ (a : ℕ). cell_of (sum binary64 true a u (n * up d * down (pos 0)) (down (pos 0) * down d))) (sym z)

  zeros_cell : (s u : Bool) (o : Float) → cell_of (sub binary64 (zero_of s) o) ≡ cell_of (sub binary64 (zero_of u) o)
  unfolding sub
  zeros_cell false false o = refl
  zeros_cell true true o = refl
  zeros_cell false true o = zero_add (neg o)
  zeros_cell true false o = sym (zero_add (neg o))

-- ---- doubles that are equal

signs_same : (s u : Bool) → beq s u ≡ true → s ≡ u
signs_same true true e = refl
signs_same false false e = refl
signs_same true false e = sym e
signs_same false true e = e

no_size : (m : ℕ) (e g : ℤ) → m * up e * down g ≡ 0 → m ≡ 0
no_size zero e g h = refl
no_size (suc m) e g h = absurd (omega (arith, mul-pos (mul-pos (above m) (up_pos e)) (down_pos g)))
  where
    above : (m : ℕ) → 0 < suc m
    above m = omega arith

record Zeros (x y : Float) : Type 0 where
  first : Bool
  second : Bool
  first_is : x ≡ zero_of first
  second_is : y ≡ zero_of second

zero_held : (s : Bool) (m : ℕ) (e : ℤ) → m ≡ 0 → T (fits binary64 (fin s m e)) → fin s m e ≡ zero_of s
zero_held s m e z h =
    ap (λ (n : ℕ). fin s n e) z ∙ held_zero s e (subst (λ (n : ℕ). T (fits binary64 (fin s n e))) z h)

one_or_zeros : (x y : Float) → T (fits binary64 x) → T (fits binary64 y) → eq x y ≡ true → (x ≡ y) ⊎ Zeros x y
unfolding eq level
one_or_zeros nan y p q h = let z : ◌≡◌ {A = ℕ} 0 1 = cc in absurd (omega arith)
one_or_zeros (inf s) nan p q h = let z : ◌≡◌ {A = ℕ} 0 1 = cc in absurd (omega arith)
one_or_zeros (inf s) (inf u) p q h = inl (ap (λ (b : Bool). inf b) (signs_same s u h))
one_or_zeros (inf s) (fin u n g) p q h = let z : ◌≡◌ {A = ℕ} 0 1 = cc in absurd (omega arith)
one_or_zeros (fin s m e) nan p q h = let z : ◌≡◌ {A = ℕ} 0 1 = cc in absurd (omega arith)
one_or_zeros (fin s m e) (inf u) p q h = let z : ◌≡◌ {A = ℕ} 0 1 = cc in absurd (omega arith)
one_or_zeros (fin s m e) (fin u n g) p q h =
    let a = m * up e * down g in
    let b = n * up g * down e in
    let t = (and-eq-true_iff (eqb a b) (beq s u || eqb a 0)).0 h in
    go (eqb-true a b t.0) (beq s u) refl t.1
  where
    go : m * up e * down g ≡ n * up g * down e → (c : Bool) → beq s u ≡ c → (beq s u || eqb (m * up e * down g) 0) ≡ true
        → (fin s m e ≡ fin u n g) ⊎ Zeros (fin s m e) (fin u n g)
    go w true c k =
        inl
        (value_only (fin s m e) (fin u n g) s (m * up e) (down e) (down_pos e) p q (refl, refl) (sym (signs_same s u c), sym w))
    go w false c k =
        let z : m * up e * down g ≡ 0 = eqb-true (m * up e * down g) 0 (sym (ap (λ (x : Bool). x || eqb (m * up e * down g) 0) c) ∙ k) in
        let i : m ≡ 0 = no_size m e g z in
        let j : n ≡ 0 = no_size n g e (sym w ∙ z) in
        inr (record { first = s; second = u; first_is = zero_held s m e i p; second_is = zero_held u n g j q })

-- EQUAL NUMBERS HAVE ONE CELL
pub equal_cell : (t o : Float) (a b : ℕ) → eq (float a) (float b) ≡ true → cell t o a ≡ cell t o b
unfolding cell
equal_cell t o a b h = go (one_or_zeros (float a) (float b) (of_bits-fits binary64 a) (of_bits-fits binary64 b) h)
  where
    go : (float a ≡ float b) ⊎ Zeros (float a) (float b) → floor64 (div binary64 (sub binary64 (float a) o) t) ≡ floor64 (div binary64 (sub binary64 (float b) o) t)
    go (inl e) = ap (λ (x : Float). floor64 (div binary64 (sub binary64 x o) t)) e
    go (inr z) =
        ap (λ (x : Float). floor64 (div binary64 (sub binary64 x o) t)) z.first_is ∙ zeros_cell t z.first z.second o
        ∙ sym (ap (λ (x : Float). floor64 (div binary64 (sub binary64 x o) t)) z.second_is)
