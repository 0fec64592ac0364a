-- Of a double that is finite and above zero, `root` is the double nearest to its root (`root_nearest`), and no other is (`nearest_only`).
-- True since no double lies between the two multiples of 2 ^ k around the root, and the definition compares the root with their middle. A tie is
-- impossible: the middle's square, taken 4 times, is odd, and the radicand, taken 4 times, is even.
use mathlib.Core.Path.{◌≡◌, refl, sym, ap, ◌∙◌, subst}
use mathlib.Core.Bool.{Bool, true, false, not}
use Prim.Native.Nat.{ℕ, suc, ◌+◌, ◌-◌, ◌*◌, ◌/◌, ◌^◌, ◌≤◌, ◌<◌, compare}
use native.Mathlib.Nat.{add-mul, mul_assoc, mul-mul-mul_comm, mul-pos, mul-le-mul_right, lt_of_mul-lt-mul_right, le-div_iff_mul-le, div-lt_iff_lt-mul, eq_of_mul-eq-mul_right, lt_of_lt_of_le, lt_of_le_of_lt, le_trans, le_of_lt, le_antisymm, lt_of_not-le, le_of_suc-le-suc, sub-add_cancel, lt_irrefl, lt_trans, add_comm}
use native.Mathlib.Omega.{arith}
use native.Mathlib.Numerals.{add-one}
use lib.Dec.{T, leb, leb→le, nleb→lt}
use lib.Pow.{pow-add, pow_pos, pow_mono, shl_lt}
use lib.Ieee.{Float, nan, inf, fin, binary64, size, nearest, units, fits, of_bits}
use lib.Ieee.Digits.{size-lt, size-le, size_reaches}
use lib.Ieee.Positive.{positive, positive-finite, positive_of_value, value_pos}
use lib.Ieee.Exact.{HasValue, units_val}
use lib.Ieee.Bits.{of_bits-fits, of_bits-to_bits}
use Rattle.rules.specs.Root.{floor_root, root_units, root}
use Rattle.float_root.specs.Nearest.{count, Nearest}
use Rattle.float_whole_root.proofs.Squares.{sq_twice, sq_odd, sq_mono, sq_lt}
use Rattle.float_root.proofs.Floor.{Cut, floor_cut, compare_lt, compare_gt, four_pos}
use Rattle.float_root.proofs.Size.{four, size_above}
use Rattle.float_root.proofs.Written.{units_bits, pattern}
use Rattle.float_root.proofs.Values.{root_above}
use Rattle.float_root.proofs.Grid.{Double, double, count_value, none_between}

-- ---- n, rounded at 2 ^ k: to q, or to the next
data Rounded (n k q r : ℕ) : Type 0 where
  stays : r ≡ q → 4 * n < (2 * q + 1) * (2 * q + 1) * 4 ^ k → Rounded n k q r
  rises : r ≡ q + 1 → (2 * q + 1) * (2 * q + 1) * 4 ^ k < 4 * n → Rounded n k q r

abbrev picked : ℕ → ℕ → ℕ → ℕ
picked n k q = nearest q (compare (4 * n) ((2 * q + 1) * (2 * q + 1) * 4 ^ k))

rounding : (n k q : ℕ) → (4 * n ≡ (2 * q + 1) * (2 * q + 1) * 4 ^ k → ⊥) → Rounded n k q (picked n k q)
rounding n k q tie = go (leb a b) (leb→le a b) (nleb→lt a b)
  where
    a : ℕ
    a = 4 * n

    b : ℕ
    b = (2 * q + 1) * (2 * q + 1) * 4 ^ k

    other : a ≤ b → a < b
    other h = lt_of_not-le (λ g. tie (le_antisymm h g))

    go : (t : Bool) → (T t → a ≤ b) → (T (not t) → b < a) → Rounded n k q (picked n k q)
    go true y z = let l = other (y tt) in stays (ap (nearest q) (compare_lt a b l)) l
    go false y z = rises (ap (nearest q) (compare_gt a b (z tt)) ∙ sym (add-one q)) (z tt)

-- ---- the middle between two numbers, squared
module _ (n k q r y : ℕ) (lo : q * q * 4 ^ k ≤ n) (hi : n < (q + 1) * (q + 1) * 4 ^ k) (gap : q * 2 ^ k < y → y < (q + 1) * 2 ^ k → ⊥) where
  square : (x : ℕ) → (x * 2 ^ k) * (x * 2 ^ k) ≡ x * x * 4 ^ k
  square x = mul-mul-mul_comm x (2 ^ k) x (2 ^ k) ∙ ap (λ (z : ℕ). x * x * z) (sym (four k ∙ pow-add 2 k k))

  both : (q + 1) * 2 ^ k + q * 2 ^ k ≡ (2 * q + 1) * 2 ^ k
  both = let e : q + 1 + q ≡ 2 * q + 1 = omega arith in sym (add-mul (q + 1) q (2 ^ k)) ∙ ap (λ (x : ℕ). x * 2 ^ k) e

  under : Rounded n k q r → y < r * 2 ^ k → (y + r * 2 ^ k) * (y + r * 2 ^ k) < 4 * n
  under (stays e l) h =
      let h' : y < q * 2 ^ k = subst (λ (x : ℕ). y < x * 2 ^ k) e h in
      let s : y + q * 2 ^ k < 2 * (q * 2 ^ k) = omega arith in
      subst (λ (x : ℕ). (y + x * 2 ^ k) * (y + x * 2 ^ k) < 4 * n) (sym e) (omega (arith, sq_lt s, sq_twice (q * 2 ^ k), square q))
  under (rises e l) h =
      let h' : y < (q + 1) * 2 ^ k = subst (λ (x : ℕ). y < x * 2 ^ k) e h in
      let g : y ≤ q * 2 ^ k = le_of_suc-le-suc (lt_of_not-le (λ (m : suc (q * 2 ^ k) ≤ y). gap m h')) in
      let s : y + (q + 1) * 2 ^ k ≤ (2 * q + 1) * 2 ^ k = omega (arith, both) in
      subst (λ (x : ℕ). (y + x * 2 ^ k) * (y + x * 2 ^ k) < 4 * n) (sym e) (omega (arith, sq_mono s, square (2 * q + 1)))

  over : Rounded n k q r → r * 2 ^ k < y → 4 * n < (y + r * 2 ^ k) * (y + r * 2 ^ k)
  over (stays e l) h =
      let h' : q * 2 ^ k < y = subst (λ (x : ℕ). x * 2 ^ k < y) e h in
      let g : (q + 1) * 2 ^ k ≤ y = le_of_suc-le-suc (lt_of_not-le (λ (m : suc y ≤ (q + 1) * 2 ^ k). gap h' m)) in
      let s : (2 * q + 1) * 2 ^ k ≤ y + q * 2 ^ k = omega (arith, both) in
      subst (λ (x : ℕ). 4 * n < (y + x * 2 ^ k) * (y + x * 2 ^ k)) (sym e) (omega (arith, sq_mono s, square (2 * q + 1)))
  over (rises e l) h =
      let h' : (q + 1) * 2 ^ k < y = subst (λ (x : ℕ). x * 2 ^ k < y) e h in
      let s : 2 * ((q + 1) * 2 ^ k) < y + (q + 1) * 2 ^ k = omega arith in
      subst (λ (x : ℕ). 4 * n < (y + x * 2 ^ k) * (y + x * 2 ^ k)) (sym e) (omega (arith, sq_lt s, sq_twice ((q + 1) * 2 ^ k), square (q + 1)))

-- ---- the radicand of a double, a * 2 ^ t with a of 53 digits at most, is no square of a middle
no_tie : (a t k q : ℕ) → k + k ≤ t → 4 * (a * 2 ^ t) ≡ (2 * q + 1) * (2 * q + 1) * 4 ^ k → ⊥
no_tie a t k q h e =
    let b = a * 2 ^ (t - (k + k)) in
    let s : a * 2 ^ t ≡ b * 4 ^ k =
    ap (λ (x : ℕ). a * x) (ap (λ (x : ℕ). 2 ^ x) (sym (sub-add_cancel h)) ∙ pow-add 2 (t - (k + k)) (k + k) ∙ ap (λ (x : ℕ). 2 ^ (t - (k + k)) * x) (sym (four k)))
    ∙ sym (mul_assoc a (2 ^ (t - (k + k))) (4 ^ k)) in
    let f : 4 * b ≡ (2 * q + 1) * (2 * q + 1) = eq_of_mul-eq-mul_right (4 ^ k) (four_pos k) (4 * b) ((2 * q + 1) * (2 * q + 1)) (mul_assoc 4 b (4 ^ k) ∙ ap (λ (x : ℕ). 4 * x) (sym s) ∙ e) in
    omega (arith, sq_odd q)

-- ---- how large the root is
record Sized (n k q : ℕ) : Type 0 where
  lo : q * q * 4 ^ k ≤ n
  hi : n < (q + 1) * (q + 1) * 4 ^ k
  least : (2 ^ 52) ≤ q
  most : q < 2 ^ 53
  few : k ≤ 1600
  even : k + k ≤ size n - 105

cut_at : (n k : ℕ) → 104 < size n → size n ≤ 3172 → k ≡ (size n + 1) / 2 - 53 → Sized n k (floor_root (n / 4 ^ k))
cut_at n k m h e = go (floor_root (n / 4 ^ k)) (floor_cut (n / 4 ^ k))
  where
    go : (q : ℕ) → Cut (n / 4 ^ k) q → Sized n k q
    go q c =
        let lo : q * q * 4 ^ k ≤ n = (le-div_iff_mul-le (four_pos k)).0 c.reached in
        let hi : n < (q + 1) * (q + 1) * 4 ^ k = (div-lt_iff_lt-mul (four_pos k)).0 c.short in
        let reach : 2 ^ 104 * 4 ^ k ≤ n = subst (λ (x : ℕ). x ≤ n) (pow-add 2 104 (k + k) ∙ ap (λ (x : ℕ). 2 ^ 104 * x) (sym (four k))) (size_reaches n (104 + (k + k)) (omega arith)) in
        let room : n < 2 ^ 106 * 4 ^ k = subst (λ (x : ℕ). n < x) (pow-add 2 106 (k + k) ∙ ap (λ (x : ℕ). 2 ^ 106 * x) (sym (four k))) (lt_of_lt_of_le (size-lt n) (pow_mono {i = size n} {j = 106 + (k + k)} (omega arith))) in
        let big : 2 ^ 104 < (q + 1) * (q + 1) = lt_of_mul-lt-mul_right (4 ^ k) (lt_of_le_of_lt reach hi) in
        let small : q * q < 2 ^ 106 = lt_of_mul-lt-mul_right (4 ^ k) (lt_of_le_of_lt lo room) in
        record {
          lo = lo;
          hi = hi;
          least = le_of_suc-le-suc (lt_of_not-le (λ (g : suc q ≤ 2 ^ 52). no_least q big g));
          most = lt_of_not-le (λ (g : (2 ^ 53) ≤ q). no_most q small g);
          few = omega arith;
          even = omega arith;
        }
      where
        no_least : (q : ℕ) → 2 ^ 104 < (q + 1) * (q + 1) → suc q ≤ 2 ^ 52 → ⊥
        no_least q h g = let g' : q + 1 ≤ (2 ^ 52) = omega arith in omega (arith, sq_mono g')

        no_most : (q : ℕ) → q * q < 2 ^ 106 → 2 ^ 53 ≤ q → ⊥
        no_most q h g = omega (arith, sq_mono g)

-- ---- the law

-- the size of a value that is finite and above zero
own : (x : Float) (a j : ℕ) → T (positive x) → Double x a j → HasValue x false (a * 2 ^ j) (2 ^ 1074)
own nan a j p d = absurd p
own (inf s) a j p d = absurd p
own (fin true m e) a j p d = absurd p
own (fin false m e) a j p d = (refl, d.exact)

nearest_at : (x r : Float) (n k q u : ℕ) → count x * 2 ^ 1074 ≡ n → Sized n k q → Rounded n k q u → r ≡ units binary64 false u k → Nearest x r
nearest_at x r n k q u e z w f =
    let least : (2 ^ 52) ≤ u = at_least w in
    let most : u ≤ (2 ^ 53) = at_most w in
    let fine : u * 2 ^ k < 2 ^ 2098 = lt_of_lt_of_le (shl_lt 54 k (omega arith)) (pow_mono {i = 54 + k} {j = 2098} (fewer z.few)) in
    let v : HasValue r false (u * 2 ^ k) (2 ^ 1074) = subst (λ (y : Float). HasValue y false (u * 2 ^ k) (2 ^ 1074)) (sym f) (units_val binary64 false u k fine) in
    let c : count r ≡ u * 2 ^ k = count_value r false (u * 2 ^ k) v in
    record {
      held =
          subst (λ (y : Float). T (fits binary64 y)) (units_bits u k least most z.few ∙ sym f) (of_bits-fits binary64 (k * 2 ^ 52 + u));
      above_zero = positive_of_value r (u * 2 ^ k) (2 ^ 1074) v (mul-pos (omega arith) (pow_pos k));
      under = λ y h g l.
          let d = double y h g in
          subst (λ (t : ℕ). (count y + count r) * (count y + count r) < 4 * t) (sym e)
          (subst (λ (t : ℕ). (count y + t) * (count y + t) < 4 * n) (sym c)
          (under n k q u (count y) z.lo z.hi (between y d.0 d.1 d.2) w (subst (λ (t : ℕ). count y < t) c l)));
      over = λ y h g l.
          let d = double y h g in
          subst (λ (t : ℕ). 4 * t < (count y + count r) * (count y + count r)) (sym e)
          (subst (λ (t : ℕ). 4 * n < (count y + t) * (count y + t)) (sym c)
          (over n k q u (count y) z.lo z.hi (between y d.0 d.1 d.2) w (subst (λ (t : ℕ). t < count y) c l)));
    }
  where
    at_least : Rounded n k q u → 2 ^ 52 ≤ u
    at_least (stays g h) = subst (λ (t : ℕ). (2 ^ 52) ≤ t) (sym g) z.least
    at_least (rises g h) = subst (λ (t : ℕ). (2 ^ 52) ≤ t) (sym g) (le_trans z.least (omega arith))

    at_most : Rounded n k q u → u ≤ 2 ^ 53
    at_most (stays g h) = subst (λ (t : ℕ). t ≤ 2 ^ 53) (sym g) (le_of_lt z.most)
    at_most (rises g h) = subst (λ (t : ℕ). t ≤ 2 ^ 53) (sym (g ∙ add-one q)) z.most

    fewer : k ≤ 1600 → 54 + k ≤ 2098
    fewer h = omega arith

    between : (y : Float) (a j : ℕ) → Double y a j → q * 2 ^ k < count y → count y < (q + 1) * 2 ^ k → ⊥
    between y a j d l h =
        none_between a j q k d.short z.least (subst (λ (t : ℕ). q * 2 ^ k < t) d.counted l) (subst (λ (t : ℕ). t < (q + 1) * 2 ^ k) d.counted h)

units_of : (n : ℕ)
    → root_units binary64 n ≡ units binary64 false (picked n ((size n + 1) / 2 - 53) (floor_root (n / 4 ^ ((size n + 1) / 2 - 53)))) ((size n + 1) / 2 - 53)
unfolding root_units
units_of n = refl

pub root_nearest : (x : Float) → T (fits binary64 x) → T (positive x) → Nearest x (root binary64 x)
root_nearest x h p =
    let d = double x h (positive-finite x p) in
    let a = d.0 in
    let j = d.1 in
    let D = d.2 in
    let v = own x a j p D in
    let o : 0 < a * 2 ^ j = value_pos x (a * 2 ^ j) (2 ^ 1074) p (pow_pos 1074) v in
    let n = a * 2 ^ j * 2 ^ 1074 in
    let k = (size n + 1) / 2 - 53 in
    let q = floor_root (n / 4 ^ k) in
    let s : n ≡ a * 2 ^ (j + 1074) = mul_assoc a (2 ^ j) (2 ^ 1074) ∙ ap (λ (y : ℕ). a * y) (sym (pow-add 2 j 1074)) in
    let big : 1074 < size n = size_above 1074 n (reached (a * 2 ^ j) o) in
    let bound : size n ≤ 3172 = size-le n 3172 (shl_lt 2098 1074 D.bounded) in
    let width : size n ≤ 53 + (j + 1074) = size-le n (53 + (j + 1074)) (subst (λ (y : ℕ). y < 2 ^ (53 + (j + 1074))) (sym s) (shl_lt 53 (j + 1074) D.short)) in
    let z : Sized n k q = cut_at n k (more (size n) big) bound refl in
    nearest_at x (root binary64 x) n k q (picked n k q) (ap (λ (y : ℕ). y * 2 ^ 1074) D.counted) z
    (rounding n k q (λ e. no_tie a (j + 1074) k q (room (size n) k (j + 1074) z.even width) (ap (λ (y : ℕ). 4 * y) (sym s) ∙ e)))
    (root_above x (a * 2 ^ j) v o ∙ units_of n)
  where
    reached : (b : ℕ) → 0 < b → 2 ^ 1074 ≤ b * 2 ^ 1074
    reached b o = mul-le-mul_right (2 ^ 1074) o

    more : (z : ℕ) → 1074 < z → 104 < z
    more z h = omega arith

    room : (z k t : ℕ) → k + k ≤ z - 105 → z ≤ 53 + t → k + k ≤ t
    room z k t a b = omega arith

no_less : (x r r' : Float) → Nearest x r → Nearest x r' → count r < count r' → ⊥
no_less x r r' p p' l =
    lt_irrefl (4 * (count x * 2 ^ 1074))
    (lt_trans (p.over r' p'.held (positive-finite r' p'.above_zero) l)
    (subst (λ (z : ℕ). z * z < 4 * (count x * 2 ^ 1074)) (add_comm (count r) (count r')) (p'.under r p.held (positive-finite r p.above_zero) l)))

-- The nearest double is one: of two that are, neither is below the other, and a double that is not negative is told by its count.
pub nearest_only : (x r r' : Float) → Nearest x r → Nearest x r' → r ≡ r'
nearest_only x r r' p p' =
    sym (told r p.held p.above_zero) ∙ ap told_by (le_antisymm (not_more (no_less x r' r p' p)) (not_more (no_less x r r' p p'))) ∙ told r' p'.held p'.above_zero
  where
    told_by : ℕ → Float
    told_by a = of_bits binary64 ((size a - 53) * 2 ^ 52 + a / 2 ^ (size a - 53))

    not_more : {a b : ℕ} → (b < a → ⊥) → a ≤ b
    not_more {a} {b} n = le_of_suc-le-suc (lt_of_not-le (λ (g : suc b ≤ a). n g))

    told : (v : Float) → T (fits binary64 v) → T (positive v) → told_by (count v) ≡ v
    told v h o =
        let d = double v h (positive-finite v o) in
        ap told_by d.2.counted ∙ ap (of_bits binary64) (sym (pattern v (d.0 * 2 ^ d.1) (own v d.0 d.1 o d.2))) ∙ of_bits-to_bits binary64 v h
