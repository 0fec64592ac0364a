-- CELLS FROM AN ORIGIN. From an origin of zero, of either sign, a cell is the floor of coordinate / tolerance (`from_zero`). A coordinate and an origin
-- that are both moved by one distance leave the cell as it is (`moved_cell`): a difference is rounded by what it is, and at zero by its sign alone, which
-- no cell shows.
use Prim.Native.Nat.{ℕ, zero, suc, ◌+◌, ◌-◌, ◌*◌, ◌<◌}
use mathlib.Core.Path.{◌≡◌, refl, sym, ap, ap₂, ◌∙◌}
use mathlib.Core.Bool.{Bool, true, false, not, ◌&&◌, cond, beq}
use mathlib.Core.Logic.{inl, inr}
use native.Mathlib.Omega.{arith}
use native.Mathlib.Nat.{zero-mul, mul-one, mul-pos}
use borrow.Author.Tests.{lt-ltb, le-ltb}
use lib.Dec.{T, ltb}
use lib.IntN.{ℤ, pos}
use lib.Pow.{pow_pos}
use lib.Ieee.{Float, nan, inf, fin, binary64, up, down, neg, sum, add, sub, div, round, fits, of_bits}
use lib.Ieee.Bits.{of_bits-fits}
use lib.Ieee.Fits.{up_pos, down_pos, neg-fits}
use lib.Ieee.Scale.{finite}
use Rattle.rules.specs.Cell.{floor64, cell}
use Rattle.float_order.proofs.Mono.{Rounds}
use Rattle.float_order.proofs.Near.{unit, unit_pos, over, under, counts, add_units}
use Rattle.chain_origins.specs.Moved.{Place, Moved}
use Rattle.chain_origins.proofs.Zeros.{zero_of, round_nothing, quotient_zero}
use Rattle.chain_origins.proofs.Values.{value_only, round_back}

-- ---- an origin of zero

-- nothing added to a number above zero
sum_nothing : (s t : Bool) (a b c : ℕ) → b ≡ 0 → 0 < a → sum binary64 s a t b c ≡ round binary64 s a c
unfolding sum
sum_nothing s t a b c e h = go (beq s t)
  where
    more : a + b ≡ a
    more = omega arith

    less_by : a - b ≡ a
    less_by = omega arith

    signed : (s : Bool) → (s && true) ≡ s
    signed true = refl
    signed false = refl

    go : (same : Bool) → cond same (round binary64 s (a + b) c) (cond (ltb a b) (round binary64 t (b - a) c) (round binary64 (s && ltb b a) (a - b) c)) ≡ round binary64 s a c
    go true = ap (λ (n : ℕ). round binary64 s n c) more
    go false =
        rw (le-ltb a b (omega arith), lt-ltb b a (omega arith))
        (ap₂ (λ (u : Bool) (n : ℕ). round binary64 u n c) (signed s) less_by)

-- a zero and nothing
sum_zeros : (s t : Bool) (a b c : ℕ) → a ≡ 0 → b ≡ 0 → 0 < c → (tolerance : Float) → floor64 (div binary64 (sum binary64 s a t b c) tolerance) ≡ pos 0
unfolding sum
sum_zeros s t a b c e f h tolerance = go (beq s t)
  where
    none : a + b ≡ 0
    none = omega arith

    taken : a - b ≡ 0
    taken = omega arith

    go : (same : Bool)
        → floor64 (div binary64 (cond same (round binary64 s (a + b) c) (cond (ltb a b) (round binary64 t (b - a) c) (round binary64 (s && ltb b a) (a - b) c))) tolerance) ≡ pos 0
    go true = ap (λ (x : Float). floor64 (div binary64 x tolerance)) (round_nothing s (a + b) c none h) ∙ quotient_zero s tolerance
    go false =
        rw (le-ltb a b (omega arith), le-ltb b a (omega arith))
        (ap (λ (x : Float). floor64 (div binary64 x tolerance)) (round_nothing (s && false) (a - b) c taken h) ∙ quotient_zero (s && false) tolerance)

-- a zero that a double holds
pub held_zero : (t : Bool) (e : ℤ) → T (fits binary64 (fin t 0 e)) → fin t 0 e ≡ zero_of t
unfolding fits
held_zero t e h =
    value_only (fin t 0 e) (zero_of t) t 0 1 (omega arith) h tt
    (refl, ap (λ (n : ℕ). n * 1) (zero-mul (up e)) ∙ sym (zero-mul (down e))) (refl, refl)

from_zero_of : (x tolerance : Float) (s : Bool) → T (fits binary64 x)
    → floor64 (div binary64 (sub binary64 x (zero_of s)) tolerance) ≡ floor64 (div binary64 x tolerance)
unfolding sub add neg
from_zero_of nan tolerance s h = refl
from_zero_of (inf t) tolerance s h = refl
from_zero_of (fin t zero e) tolerance s h =
    sum_zeros t (not s) (0 * up e * 1) (0 * 1 * down e) (down e * 1) (ap (λ (n : ℕ). n * 1) (zero-mul (up e))) (zero-mul (down e)) (mul-pos (down_pos e) (omega arith)) tolerance
    ∙ sym (ap (λ (x : Float). floor64 (div binary64 x tolerance)) (held_zero t e h) ∙ quotient_zero t tolerance)
from_zero_of (fin t (suc m) e) tolerance s h =
    ap (λ (x : Float). floor64 (div binary64 x tolerance))
    (sum_nothing t (not s) (suc m * up e * 1) (0 * 1 * down e) (down e * 1) (zero-mul (down e)) (mul-pos (mul-pos (omega arith) (up_pos e)) (omega arith))
    ∙ ap₂ (λ (a c : ℕ). round binary64 t a c) (mul-one (suc m * up e)) (mul-one (down e))
    ∙ round_back t m e h)

-- FROM ZERO, of either sign, a cell is the floor of coordinate / tolerance
pub from_zero : (tolerance : Float) (s : Bool) (n : ℕ) → cell tolerance (zero_of s) n ≡ floor64 (div binary64 (of_bits binary64 n) tolerance)
unfolding cell
from_zero tolerance s n = from_zero_of (of_bits binary64 n) tolerance s (of_bits-fits binary64 n)

-- ---- moved

-- what a rounded difference of P and N units is in a cell
pub cell_of : (tolerance x y : Float) (P N Q M c : ℕ) → 0 < c → P + M ≡ Q + N → Rounds binary64 x P N c → Rounds binary64 y Q M c
    → floor64 (div binary64 x tolerance) ≡ floor64 (div binary64 y tolerance)
cell_of tolerance x y P N Q M c C h (inl u) (inl v) =
    let e : P - N ≡ Q - M = omega (arith, u.0, v.0) in
    ap (λ (z : Float). floor64 (div binary64 z tolerance)) (u.1 ∙ ap (λ (n : ℕ). round binary64 false n c) e ∙ sym v.1)
cell_of tolerance x y P N Q M c C h (inr u) (inr v) =
    let e : N - P ≡ M - Q = omega (arith, u.0, v.0) in
    ap (λ (z : Float). floor64 (div binary64 z tolerance)) (u.1 ∙ ap (λ (n : ℕ). round binary64 true n c) e ∙ sym v.1)
cell_of tolerance x y P N Q M c C h (inl u) (inr v) =
    ap (λ (z : Float). floor64 (div binary64 z tolerance)) (u.1 ∙ round_nothing false (P - N) c (omega (arith, u.0, v.0)) C)
    ∙ quotient_zero false tolerance
    ∙ sym (ap (λ (z : Float). floor64 (div binary64 z tolerance)) (v.1 ∙ round_nothing true (M - Q) c (omega (arith, u.0, v.0)) C) ∙ quotient_zero true tolerance)
cell_of tolerance x y P N Q M c C h (inr u) (inl v) =
    ap (λ (z : Float). floor64 (div binary64 z tolerance)) (u.1 ∙ round_nothing true (N - P) c (omega (arith, u.0, v.0)) C)
    ∙ quotient_zero true tolerance
    ∙ sym (ap (λ (z : Float). floor64 (div binary64 z tolerance)) (v.1 ∙ round_nothing false (Q - M) c (omega (arith, u.0, v.0)) C) ∙ quotient_zero false tolerance)

over_neg : (x : Float) → over (neg x) ≡ under x
unfolding over under neg
over_neg nan = refl
over_neg (inf s) = refl
over_neg (fin true m e) = refl
over_neg (fin false m e) = refl

under_neg : (x : Float) → under (neg x) ≡ over x
unfolding over under neg
under_neg nan = refl
under_neg (inf s) = refl
under_neg (fin true m e) = refl
under_neg (fin false m e) = refl

finite_neg : (x : Float) → T (finite x) → T (finite (neg x))
unfolding neg
finite_neg nan h = h
finite_neg (inf s) h = h
finite_neg (fin s m e) h = h

difference : (x o : Float) → Place x → Place o → Rounds binary64 (sub binary64 x o) (over x + under o) (under x + over o) (1 * unit)
unfolding sub
difference x o p q =
    let r = add_units x (neg o) (counts x p.somewhere p.held) (counts (neg o) (finite_neg o q.somewhere) (neg-fits binary64 o q.held)) in
    rw (over_neg o, under_neg o) at r

-- MOVED BY ONE DISTANCE, a coordinate and an origin leave the cell as it is
pub moved_cell : (tolerance o o' : Float) (n n' : ℕ) → Moved (of_bits binary64 n) o (of_bits binary64 n') o' → cell tolerance o n ≡ cell tolerance o' n'
unfolding cell
moved_cell tolerance o o' n n' m =
    let x = of_bits binary64 n in
    let x' = of_bits binary64 n' in
    cell_of tolerance (sub binary64 x o) (sub binary64 x' o') (over x + under o) (under x + over o) (over x' + under o') (under x' + over o') (1 * unit)
    (mul-pos (pow_pos 0) unit_pos) m.distance (difference x o m.coordinate m.origin) (difference x' o' m.coordinate' m.origin')
