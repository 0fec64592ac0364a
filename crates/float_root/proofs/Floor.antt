-- `floor_root` is the root cut to a whole number, and `nearest` of it is the whole number nearest to the root: a digit more of the root takes
-- two more of the radicand, and the comparison with the middle is the test of `Near`.
use mathlib.Core.Path.{◌≡◌, refl, sym, ap, ◌∙◌, subst}
use mathlib.Core.Bool.{Bool, true, false, not, cond}
use mathlib.Core.Logic.{◌⊎◌, inl, inr}
use Prim.Native.Nat.{ℕ, zero, suc, ◌+◌, ◌*◌, ◌/◌, ◌^◌, ◌≤◌, ◌<◌, compare, Ordering}
use native.Mathlib.Nat.{pow-suc, lt_of_lt_of_le, le_of_lt, eq-zero-or-pos, pow-le-pow_left, mul_assoc, mul-lt-mul_of_pos_right, one-le-pow}
use native.Mathlib.Omega.{arith}
use native.Mathlib.Numerals.{add-one}
use lib.Dec.{T, is_le, compare_is_eq, leb, leb→le, nleb→lt, le→leb, eqb→eq, lit≤, lit<}
use lib.Arith.{lt→nleb}
use lib.Ieee.{nearest, size}
use lib.Ieee.Digits.{size-lt}
use Rattle.rules.specs.Root.{doubled, digits, floor_root}
use Rattle.float_whole_root.specs.Near.{Near}
use Rattle.float_whole_root.proofs.Squares.{sq_more, sq_odd, sq_twice, only}

-- r is the root of n, cut to a whole number
pub record Cut (n r : ℕ) : Type 0 where
  pub reached : r * r ≤ n
  pub short : n < (r + 1) * (r + 1)

grown : (r n : ℕ) → Cut (n / 4) r → Cut n (doubled r n)
grown r n p = go (leb ((2 * r + 1) * (2 * r + 1)) n) (leb→le ((2 * r + 1) * (2 * r + 1)) n) (nleb→lt ((2 * r + 1) * (2 * r + 1)) n)
  where
    go : (b : Bool) → (T b → (2 * r + 1) * (2 * r + 1) ≤ n) → (T (not b) → n < (2 * r + 1) * (2 * r + 1)) → Cut n (cond b (2 * r + 1) (2 * r))
    go true y z = record { reached = y tt; short = omega (arith, sq_more (2 * r + 1), sq_odd r, sq_more r) }
    go false y z = record { reached = omega (arith, sq_twice r); short = z tt }

digits_cut : (d n : ℕ) → n < 4 ^ d → Cut n (digits d n)
unfolding digits
digits_cut zero n h = record { reached = omega arith; short = h }
digits_cut (suc d) n h = grown (digits d (n / 4)) n (digits_cut d (n / 4) (omega (arith, pow-suc 4 d)))

pub floor_cut : (n : ℕ) → Cut n (floor_root n)
unfolding floor_root
floor_cut n = digits_cut (size n) n (lt_of_lt_of_le (size-lt n) (pow-le-pow_left (lit≤ {m = 2} {n = 4} tt) (size n)))

-- ---- what `compare` gives
pub compare_lt : (a b : ℕ) → a < b → compare a b ≡ Ordering.lt
compare_lt a b h = go (compare a b) (le→leb a b (le_of_lt h)) (λ t. no a b h (eqb→eq a b t))
  where
    no : (a b : ℕ) → a < b → a ≡ b → ⊥
    no a b h e = omega arith

    go : (o : Ordering) → T (is_le o) → (T (compare_is_eq o) → ⊥) → o ≡ Ordering.lt
    go Ordering.lt l n = refl
    go Ordering.eq l n = absurd (n tt)
    go Ordering.gt l n = absurd l

pub compare_gt : (a b : ℕ) → b < a → compare a b ≡ Ordering.gt
compare_gt a b h = go (compare a b) (lt→nleb a b h)
  where
    go : (o : Ordering) → T (not (is_le o)) → o ≡ Ordering.gt
    go Ordering.lt l = absurd l
    go Ordering.eq l = absurd l
    go Ordering.gt l = refl

-- ---- the root of c * 4 ^ k, rounded
pub four_pos : (k : ℕ) → 0 < 4 ^ k
four_pos k = one-le-pow k 4 (lit< tt)

pub rounded : (c k r : ℕ) → 0 < c → Near c r
    → nearest (floor_root c) (compare (4 * (c * 4 ^ k)) ((2 * floor_root c + 1) * (2 * floor_root c + 1) * 4 ^ k)) ≡ r
rounded c k r o near = go (floor_root c) (floor_cut c)
  where
    some : (q : ℕ) → (q ≡ 0) ⊎ (0 < q) → Cut c q → q * q < c + q
    some q (inl z) p = omega (arith, ap (λ (x : ℕ). x * x) z)
    some q (inr z) p = omega arith

    scaled : (a b : ℕ) → 4 * a < b → 4 * (a * 4 ^ k) < b * 4 ^ k
    scaled a b h = subst (λ (x : ℕ). x < b * 4 ^ k) (mul_assoc 4 a (4 ^ k)) (mul-lt-mul_of_pos_right h (four_pos k))

    scaled_up : (a b : ℕ) → b < 4 * a → b * 4 ^ k < 4 * (a * 4 ^ k)
    scaled_up a b h = subst (λ (x : ℕ). b * 4 ^ k < x) (mul_assoc 4 a (4 ^ k)) (mul-lt-mul_of_pos_right h (four_pos k))

    pick : (q : ℕ) → Cut c q → (b : Bool) → (T b → c ≤ q * q + q) → (T (not b) → q * q + q < c)
        → nearest q (compare (4 * (c * 4 ^ k)) ((2 * q + 1) * (2 * q + 1) * 4 ^ k)) ≡ r
    pick q p true y n =
        let u = y tt in
        ap (nearest q) (compare_lt _ _ (scaled c ((2 * q + 1) * (2 * q + 1)) (omega (arith, sq_odd q))))
        ∙ only c q r (record { under = some q (eq-zero-or-pos q) p; over = u }) near
    pick q p false y n =
        let u = n tt in
        ap (nearest q) (compare_gt _ _ (scaled_up c ((2 * q + 1) * (2 * q + 1)) (omega (arith, sq_odd q))))
        ∙ sym (add-one q)
        ∙ only c (q + 1) r (record { under = omega (arith, sq_more q); over = omega (arith, sq_more q) }) near

    go : (q : ℕ) → Cut c q → nearest q (compare (4 * (c * 4 ^ k)) ((2 * q + 1) * (2 * q + 1) * 4 ^ k)) ≡ r
    go q p = pick q p (leb c (q * q + q)) (leb→le c (q * q + q)) (nleb→lt c (q * q + q))
