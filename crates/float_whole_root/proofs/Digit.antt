-- One turn of the loop of `quotient_root`: two binary digits more of the quotient, and one of its root.
use mathlib.Core.Path.{◌≡◌, sym, ap, ◌∙◌, subst}
use Prim.Native.Nat.{ℕ, ◌+◌, ◌-◌, ◌*◌, ◌/◌, ◌%◌, ◌^◌, ◌≤◌, ◌<◌}
use native.Mathlib.Nat.{pow-suc, mul_assoc, mul_comm, add-mul, le_antisymm, le_of_suc-le-suc, eq-zero-or-pos, mod-lt, div-add-mod', div-lt_iff_lt-mul, div-eq_of_lt, mul-add-div_right}
use mathlib.Core.Logic.{◌⊎◌, inl, inr}
use native.Mathlib.Omega.{arith}
use native.Mathlib.Numerals.{add-one}
use lib.Pow.{pow_mono}
use Rattle.float_whole_root.specs.Near.{Near}
use Rattle.float_whole_root.proofs.Squares.{sq_more, odd_sq, twice_sq}

-- what holds after i digits
pub record Passed (n d q over left i : ℕ) : Type 0 where
  pub short : q < 2 ^ i
  pub above : over ≤ 2 * q
  pub rest : left < d
  pub parts : n * 4 ^ i ≡ (q * q + over) * d + left

pub start : (n d : ℕ) → n < d → Passed n d 0 0 n 0
start n d h = record { short = omega arith; above = omega arith; rest = h; parts = omega arith }

-- before the last digit q is small
pub below : {n d q over left i : ℕ} → Passed n d q over left i → i < 60 → q < 2 ^ 59
below {i = i} p h = omega (arith, pow_mono {i = i} {j = 59} (le_of_suc-le-suc h))

two_more : (i : ℕ) → 2 ^ (i + 1) ≡ 2 ^ i * 2
two_more i = ap (λ (x : ℕ). 2 ^ x) (add-one i) ∙ pow-suc 2 i

four_more : (n i : ℕ) → n * 4 ^ (i + 1) ≡ n * 4 ^ i * 4
four_more n i = ap (λ (x : ℕ). n * x) (ap (λ (x : ℕ). 4 ^ x) (add-one i) ∙ pow-suc 4 i) ∙ sym (mul_assoc n (4 ^ i) 4)

pub two_digits : (d left : ℕ) → left < d → left * 4 / d ≤ 3
two_digits d left h = let l : left * 4 / d < 4 = (div-lt_iff_lt-mul {k = d} {x = left * 4} {y = 4} (omega arith)).1 (omega arith) in omega arith

-- the parts of the next prefix, whatever the next square is
next_parts : {n d q over left i : ℕ} (s o : ℕ) → Passed n d q over left i → s + o ≡ 4 * (q * q) + (over * 4 + left * 4 / d)
    → n * 4 ^ (i + 1) ≡ (s + o) * d + left * 4 % d
next_parts {n} {d} {q} {over} {left} {i} s o p e =
    let f : s + o ≡ (q * q + over) * 4 + left * 4 / d = omega arith in
    let a : (s + o) * d ≡ ((q * q + over) * 4 + left * 4 / d) * d = ap (λ (x : ℕ). x * d) f in
    let b = add-mul ((q * q + over) * 4) (left * 4 / d) d in
    let c : (q * q + over) * 4 * d ≡ (q * q + over) * d * 4 = mul_assoc (q * q + over) 4 d ∙ ap (λ (x : ℕ). (q * q + over) * x) (mul_comm 4 d) ∙ sym (mul_assoc (q * q + over) d 4) in
    let m = div-add-mod' (left * 4) d in
    let w = p.parts in
    omega (arith, four_more n i)

pub taken : {n d q over left i : ℕ} → Passed n d q over left i → q * 4 + 1 ≤ over * 4 + left * 4 / d
    → Passed n d (q * 2 + 1) (over * 4 + left * 4 / d - (q * 4 + 1)) (left * 4 % d) (i + 1)
taken {n} {d} {q} {over} {left} {i} p t = record {
  short = omega (arith, two_more i);
  above = omega (arith, two_digits d left p.rest);
  rest = mod-lt (left * 4) (omega (arith, p.rest));
  parts = next_parts ((q * 2 + 1) * (q * 2 + 1)) (over * 4 + left * 4 / d - (q * 4 + 1)) p (omega (arith, odd_sq q));
}

pub passed_by : {n d q over left i : ℕ} → Passed n d q over left i → over * 4 + left * 4 / d < q * 4 + 1
    → Passed n d (q * 2) (over * 4 + left * 4 / d) (left * 4 % d) (i + 1)
passed_by {n} {d} {q} {over} {left} {i} p t = record {
  short = omega (arith, two_more i);
  above = omega arith;
  rest = mod-lt (left * 4) (omega (arith, p.rest));
  parts = next_parts (q * 2 * (q * 2)) (over * 4 + left * 4 / d) p (omega (arith, twice_sq q));
}

-- the same at equal numbers
pub moved : {n d q q' over over' left i : ℕ} → Passed n d q over left i → q' ≡ q → over' ≡ over → Passed n d q' over' left i
moved {n} {d} {q} {q'} {over} {over'} {left} {i} p e f =
    subst (λ (x : ℕ). Passed n d x over' left i) (sym e) (subst (λ (x : ℕ). Passed n d q x left i) (sym f) p)

-- at the end the quotient, cut to a whole number, is the square and what is over it
pub ended : {n d q over left i t : ℕ} → Passed n d q over left i → i ≤ t → t ≤ i → (q * q + over ≡ n * 4 ^ t / d) × (over ≤ 2 * q) × (q < 2 ^ t)
ended {n} {d} {q} {over} {left} {i} {t} p h k =
    subst (λ (x : ℕ). (q * q + over ≡ n * 4 ^ x / d) × (over ≤ 2 * q) × (q < 2 ^ x)) (le_antisymm h k) (sym quotient, p.above, p.short)
  where
    quotient : n * 4 ^ i / d ≡ q * q + over
    quotient =
        ap (λ (x : ℕ). x / d) p.parts ∙ mul-add-div_right (omega (arith, p.rest)) (q * q + over) left
        ∙ ap (λ (x : ℕ). q * q + over + x) (div-eq_of_lt p.rest) ∙ omega arith

-- ---- what a root cut to a whole number says of the nearest one
pub upward : {c q over : ℕ} → q * q + over ≡ c → over ≤ 2 * q → q < over → Near c (q + 1)
upward {q = q} e o u = record { under = omega (arith, sq_more q); over = omega (arith, sq_more q) }

pub downward : {c q over : ℕ} → q * q + over ≡ c → 0 < c → over ≤ q → Near c q
downward {c} {q} {over} e o d = record { under = some (eq-zero-or-pos q); over = omega arith }
  where
    some : (q ≡ 0) ⊎ (0 < q) → q * q < c + q
    some (inl z) = omega (arith, ap (λ (x : ℕ). x * x) z)
    some (inr z) = omega arith
