-- A rounded result is near what it rounds: within `tiny` of it, 2 ^ -40, where that is at most 16 in size (`near_add`, `near_mul`).
-- A finite value of binary64 is counted in units of 2 ^ -1074: it is (over - under) / unit, both whole. `unit` and `tiny` stay shut, so that nothing computes them.
use mathlib.Core.Path.{◌≡◌, refl, sym, ap, ap₂, ◌∙◌, subst}
use mathlib.Core.Logic.{inl, inr}
use Prim.Native.Nat.{ℕ, zero, suc, ◌+◌, ◌-◌, ◌*◌, ◌/◌, ◌%◌, ◌^◌, ◌≤◌, ◌<◌, compare}
use native.Mathlib.Nat.{le_trans, le_of_eq, lt_of_not-le, lt_of_le_of_lt, not-le_of_lt, mul_comm, mul_assoc, mul_left_comm, suc-mul, mul-one, zero-mul, zero-div, mul-pos, mul-le-mul_right, le_of_mul-le-mul_right, mul-div_cancel, div-mul-le_self, lt-div-mul-add, div-lt_iff_lt-mul}
use native.Mathlib.Omega.{arith}
use mathlib.Core.Bool.{Bool, true, false, ◌&&◌, true≢false, false≢true}
use lib.IntN.{ℤ, pos, negsuc}
use lib.Dec.{T, leb, ltb, eqb, leb→le, lit≤}
use lib.Pow.{pow-add, pow_pos, pow_mono, pow-lt}
use lib.Ieee.{Float, nan, inf, fin, binary64, up, down, size, nearest, round, add, mul, le, fits}
use lib.Ieee.Digits.{size-le}
use lib.Ieee.Fits.{down_pos, and_l, and_r, nearest-le, round_is, add-fits, mul-fits}
use lib.Ieee.Exact.{HasValue, units_val}
use lib.Ieee.Nearest.{closest, nearest-ge}
use lib.Ieee.Order.{drop, kept}
use lib.Ieee.Scale.{finite, round_same}
use lib.Ieee.Positive.{den, den_pos}
use Rattle.float_order.proofs.Order.{plus, less, le_to_left}
use Rattle.float_order.proofs.Mono.{Rounds, sub_mul, mul_rounds, mul_rounds_neg, add_rounds}

unfoldable pub unit : ℕ
unit = 2 ^ 1074

unfoldable pub tiny : ℕ
tiny = 2 ^ 1034

pub unit_is : unit ≡ 1099511627776 * tiny
unfolding unit tiny
unit_is = refl

pub unit_pos : 0 < unit
unfolding unit
unit_pos = pow_pos 1074

pub tiny_pos : 0 < tiny
unfolding tiny
tiny_pos = pow_pos 1034

unfoldable pub over : Float → ℕ
over z = plus z * unit / den z

unfoldable pub under : Float → ℕ
under z = less z * unit / den z

-- both divisions are exact
pub record Counts (z : Float) : Type 0 where
  pub counts_finite : T (finite z)
  pub over_is : plus z * unit ≡ over z * den z
  pub under_is : less z * unit ≡ under z * den z

-- ---- a value that fits is counted
exact : (a w d u : ℕ) → 0 < d → u ≡ w * d → a * u ≡ a * u / d * d
exact a w d u D h =
    let e : a * u ≡ a * w * d = ap (λ (z : ℕ). a * z) h ∙ sym (mul_assoc a w d) in
    e ∙ sym (ap (λ (z : ℕ). z / d * d) e ∙ ap (λ (z : ℕ). z * d) (mul-div_cancel (a * w) D))

exact_zero : (a d u : ℕ) → a ≡ 0 → a * u ≡ a * u / d * d
exact_zero a d u h =
    let e : a * u ≡ 0 = ap (λ (z : ℕ). z * u) h ∙ zero-mul u in
    e ∙ sym (ap (λ (z : ℕ). z / d * d) e ∙ ap (λ (z : ℕ). z * d) (zero-div d) ∙ zero-mul d)

divides : (e : ℤ) → down e ≤ 2 ^ 1074 → (w : ℕ) × (unit ≡ w * down e)
unfolding unit
divides (pos k) h = (2 ^ 1074, sym (mul-one (2 ^ 1074)))
divides (negsuc k) h =
    let l : suc k ≤ 1074 = lt_of_not-le (λ (g : 1074 ≤ k). not-le_of_lt (pow-lt (further g)) h) in
    (2 ^ (1074 - suc k), ap (λ (z : ℕ). 2 ^ z) (sym (rest l)) ∙ pow-add 2 (1074 - suc k) (suc k))
  where
    further : 1074 ≤ k → 1074 < suc k
    further g = omega arith

    rest : suc k ≤ 1074 → 1074 - suc k + suc k ≡ 1074
    rest l = omega arith

no_over : (s : Bool) (e : ℤ) → plus (fin s 0 e) ≡ 0
no_over true e = refl
no_over false e = zero-mul (up e)

no_under : (s : Bool) (e : ℤ) → less (fin s 0 e) ≡ 0
no_under true e = zero-mul (up e)
no_under false e = refl

pub counts : (z : Float) → T (finite z) → T (fits binary64 z) → Counts z
unfolding over under fits
counts nan p q = absurd p
counts (inf s) p q = absurd p
counts (fin s zero e) p q =
    record { counts_finite = tt; over_is = exact_zero (plus (fin s 0 e)) (down e) unit (no_over s e); under_is = exact_zero (less (fin s 0 e)) (down e) unit (no_under s e) }
counts (fin s (suc m) e) p q =
    let A = eqb (suc m % 2) 1 && ltb (suc m) (2 ^ 53) in
    let C = leb (down e) (2 ^ 1074) in
    let D = ltb (suc m * up e) (2 ^ 1024 * down e) in
    let w = divides e (leb→le (down e) (2 ^ 1074) (and_r A C (and_l (A && C) D q))) in
    record {
      counts_finite = tt;
      over_is = exact (plus (fin s (suc m) e)) w.0 (down e) unit (down_pos e) w.1;
      under_is = exact (less (fin s (suc m) e)) w.0 (down e) unit (down_pos e) w.1;
    }

-- ---- the order
units_order : (a b c d p n q m k l u : ℕ) → 0 < k → 0 < l → a * u ≡ p * k → b * u ≡ n * k → c * u ≡ q * l → d * u ≡ m * l
    → a * l + d * k ≤ c * k + b * l → p + m ≤ q + n
units_order a b c d p n q m k l u K L ha hb hc hd h =
    let w : (a * l + d * k) * u ≤ (c * k + b * l) * u = mul-le-mul_right u h in
    le_of_mul-le-mul_right {k = k * l}
    (omega (arith, ap (λ (z : ℕ). z * l) ha, ap (λ (z : ℕ). z * l) hb, ap (λ (z : ℕ). z * k) hc, ap (λ (z : ℕ). z * k) hd)) (mul-pos K L)

pub le_to_units : (x y : Float) → Counts x → Counts y → T (le x y) → over x + under y ≤ over y + under x
le_to_units x y p q h =
    units_order (plus x) (less x) (plus y) (less y) (over x) (under x) (over y) (under y) (den x) (den y) unit (den_pos x) (den_pos y)
    p.over_is p.under_is q.over_is q.under_is (le_to_left x y p.counts_finite q.counts_finite h)

-- ---- a sum and a product in units
pub rounds_same : (z : Float) (P N c Q M d : ℕ) → 0 < c → 0 < d → P * d ≡ Q * c → N * d ≡ M * c → Rounds binary64 z P N c → Rounds binary64 z Q M d
rounds_same z P N c Q M d C D p q (inl u) =
    let i = mul-le-mul_right d u.0 in
    let j : M ≤ Q = le_of_mul-le-mul_right {k = c} (omega arith) C in
    inl (j, u.1 ∙ round_same binary64 false (P - N) c (Q - M) d C D (sub_mul P N d ∙ ap₂ ◌-◌ p q ∙ sym (sub_mul Q M c)))
rounds_same z P N c Q M d C D p q (inr u) =
    let i = mul-le-mul_right d u.0 in
    let j : Q ≤ M = le_of_mul-le-mul_right {k = c} (omega arith) C in
    inr (j, u.1 ∙ round_same binary64 true (N - P) c (M - Q) d C D (sub_mul N P d ∙ ap₂ ◌-◌ q p ∙ sym (sub_mul M Q c)))

sum_units : (a b k l p q u : ℕ) → a * u ≡ p * k → b * u ≡ q * l → (a * l + b * k) * (1 * u) ≡ (p + q) * (k * l)
sum_units a b k l p q u h i = omega (arith, ap (λ (z : ℕ). z * l) h, ap (λ (z : ℕ). z * k) i)

pub add_units : (x y : Float) → Counts x → Counts y → Rounds binary64 (add binary64 x y) (over x + over y) (under x + under y) (1 * unit)
add_units x y p q =
    rounds_same (add binary64 x y) (plus x * den y + plus y * den x) (less x * den y + less y * den x) (den x * den y) _ _ _
    (mul-pos (den_pos x) (den_pos y)) (mul-pos (pow_pos 0) unit_pos)
    (sum_units (plus x) (plus y) (den x) (den y) (over x) (over y) unit p.over_is q.over_is)
    (sum_units (less x) (less y) (den x) (den y) (under x) (under y) unit p.under_is q.under_is)
    (add_rounds binary64 x y p.counts_finite q.counts_finite)

product_units : (a b k l p q u : ℕ) → a * u ≡ p * k → b * u ≡ q * l → a * b * (u * u) ≡ p * q * (k * l)
product_units a b k l p q u h i =
    simp (mul_assoc, mul_comm, mul_left_comm) (simp (mul_assoc, mul_comm, mul_left_comm) at (ap₂ ◌*◌ h i))

signed : (a : Float) (x : Float) → T (finite a) → T (finite x)
    → Rounds binary64 (mul binary64 a x) (plus a * plus x + less a * less x) (plus a * less x + less a * plus x) (den a * den x)
signed nan x p q = absurd p
signed (inf s) x p q = absurd p
signed (fin false m e) x p q =
    subst (λ (z : ℕ). Rounds binary64 (mul binary64 (fin false m e) x) z (m * up e * less x + 0 * plus x) (down e * den x)) (omega (arith, zero-mul (less x)))
    (subst (λ (z : ℕ). Rounds binary64 (mul binary64 (fin false m e) x) (m * up e * plus x) z (down e * den x)) (omega (arith, zero-mul (plus x))) (mul_rounds binary64 m e x q))
signed (fin true m e) x p q =
    subst (λ (z : ℕ). Rounds binary64 (mul binary64 (fin true m e) x) z (0 * less x + m * up e * plus x) (down e * den x)) (omega (arith, zero-mul (plus x)))
    (subst (λ (z : ℕ). Rounds binary64 (mul binary64 (fin true m e) x) (m * up e * less x) z (down e * den x)) (omega (arith, zero-mul (less x))) (mul_rounds_neg binary64 m e x q))

pub mul_units : (x y : Float) → Counts x → Counts y
    → Rounds binary64 (mul binary64 x y) (over x * over y + under x * under y) (over x * under y + under x * over y) (unit * unit)
mul_units x y p q =
    rounds_same (mul binary64 x y) (plus x * plus y + less x * less y) (plus x * less y + less x * plus y) (den x * den y) _ _ _
    (mul-pos (den_pos x) (den_pos y)) (mul-pos unit_pos unit_pos)
    (two_products (plus x * plus y) (less x * less y) (unit * unit) (over x * over y) (under x * under y) (den x * den y)
    (product_units (plus x) (plus y) (den x) (den y) (over x) (over y) unit p.over_is q.over_is)
    (product_units (less x) (less y) (den x) (den y) (under x) (under y) unit p.under_is q.under_is))
    (two_products (plus x * less y) (less x * plus y) (unit * unit) (over x * under y) (under x * over y) (den x * den y)
    (product_units (plus x) (less y) (den x) (den y) (over x) (under y) unit p.over_is q.under_is)
    (product_units (less x) (plus y) (den x) (den y) (under x) (over y) unit p.under_is q.over_is))
    (signed x y p.counts_finite q.counts_finite)
  where
    two_products : (a b u c d v : ℕ) → a * u ≡ c * v → b * u ≡ d * v → (a + b) * u ≡ (c + d) * v
    two_products a b u c d v h i = omega arith

-- ---- the error of rounding
closest_near : (a b : ℕ) → 0 < b → (closest a b * b ≤ a + b) × (a ≤ closest a b * b + b)
closest_near a b B =
    let q = a / b in
    let o = compare (a % b * 2) b in
    let u : nearest q o * b ≤ suc q * b = mul-le-mul_right b (nearest-le q o) in
    let v : q * b ≤ nearest q o * b = mul-le-mul_right b (nearest-ge q o) in
    let s : suc q * b ≡ q * b + b = suc-mul q b in
    let l : q * b ≤ a = div-mul-le_self a b in
    let g : a < q * b + b = lt-div-mul-add B in
    (le_trans u (le_trans (le_of_eq s) (more (q * b) a b l)), le_trans (less_of a (q * b + b) g) (more (q * b) (nearest q o * b) b v))
  where
    more : (x y z : ℕ) → x ≤ y → x + z ≤ y + z
    more x y z h = omega arith

    less_of : (x y : ℕ) → x < y → x ≤ y
    less_of x y h = omega arith

wide : (A d u : ℕ) → 0 < d → 0 < u → A ≤ 16 * (d * u) → A * u < 32 * u * (d * u)
wide A d u D U h =
    let i = mul-le-mul_right u h in
    let j = mul-pos (mul-pos D U) U in
    omega arith

-- the step of the result
step_tiny : (A d : ℕ) → 0 < d → A ≤ 16 * (d * unit) → 2 ^ drop 53 (A * unit) (d * unit) ≤ tiny
unfolding tiny
step_tiny A d D h =
    pow_mono (few (size (A * unit / (d * unit)))
    (size-le (A * unit / (d * unit)) 1079 ((div-lt_iff_lt-mul (mul-pos D unit_pos)).1 (subst (λ (z : ℕ). A * unit < z * (d * unit)) thirty_two (wide A d unit D unit_pos h)))))
  where
    few : (z : ℕ) → z ≤ 1079 → z - 53 ≤ 1034
    few z l = omega arith

    thirty_two : 32 * unit ≡ 2 ^ 1079
    thirty_two = unfold unit in refl

cancel : (c d u t A E : ℕ) → 0 < u → t ≤ E → c * (d * u * t) ≤ A * u + d * u * t → A * u ≤ c * (d * u * t) + d * u * t
    → (c * t * d ≤ A + E * d) × (A ≤ c * t * d + E * d)
cancel c d u t A E U l h k =
    let i : t * d * u ≤ E * d * u = mul-le-mul_right u (mul-le-mul_right d l) in
    (le_of_mul-le-mul_right {k = u} (omega arith) U, le_of_mul-le-mul_right {k = u} (omega arith) U)

-- what `round` makes of A / (d * unit), in units
abbrev rounded : ℕ → ℕ → ℕ
rounded A d = kept 53 (A * unit) (d * unit) * 2 ^ drop 53 (A * unit) (d * unit)

rounded_near : (A d : ℕ) → 0 < d → A ≤ 16 * (d * unit) → (rounded A d * d ≤ A + tiny * d) × (A ≤ rounded A d * d + tiny * d)
rounded_near A d D h =
    let k = drop 53 (A * unit) (d * unit) in
    let n = closest_near (A * unit) (d * unit * 2 ^ k) (mul-pos (mul-pos D unit_pos) (pow_pos k)) in
    cancel (kept 53 (A * unit) (d * unit)) d unit (2 ^ k) A tiny unit_pos (step_tiny A d D h) n.0 n.1

rounded_small : (A d : ℕ) → 0 < d → A ≤ 16 * (d * unit) → rounded A d ≤ 17 * unit
rounded_small A d D h = le_of_mul-le-mul_right {k = d} (sized (rounded A d) A d unit tiny unit_is h (rounded_near A d D h).0) D
  where
    sized : (r A d u t : ℕ) → u ≡ 1099511627776 * t → A ≤ 16 * (d * u) → r * d ≤ A + t * d → r * d ≤ 17 * u * d
    sized r A d u t e h k = omega (arith, ap (λ (z : ℕ). z * d) e)

round_value : (s : Bool) (A d : ℕ) → rounded A d ≤ 17 * unit → HasValue (round binary64 s A (d * unit)) s (rounded A d) unit
unfolding unit
round_value s A d h =
    subst (λ (z : Float). HasValue z s (rounded A d) (2 ^ 1074)) (sym (round_is binary64 s A (d * 2 ^ 1074)))
    (units_val binary64 s (kept 53 (A * 2 ^ 1074) (d * 2 ^ 1074)) (drop 53 (A * 2 ^ 1074) (d * 2 ^ 1074)) (lt_of_le_of_lt h (lit≤ tt)))

value_over : (z : Float) (a : ℕ) → HasValue z false a unit → T (finite z) × ((over z ≡ a) × (under z ≡ 0))
unfolding over under
value_over nan a h = absurd h
value_over (inf s) a h = absurd h
value_over (fin true m e) a h = absurd (true≢false h.0)
value_over (fin false m e) a h =
    (tt, (ap (λ (z : ℕ). z / down e) h.1 ∙ mul-div_cancel a (down_pos e), ap (λ (z : ℕ). z / down e) (zero-mul unit) ∙ zero-div (down e)))

value_under : (z : Float) (a : ℕ) → HasValue z true a unit → T (finite z) × ((over z ≡ 0) × (under z ≡ a))
unfolding over under
value_under nan a h = absurd h
value_under (inf s) a h = absurd h
value_under (fin false m e) a h = absurd (false≢true h.0)
value_under (fin true m e) a h =
    (tt, (ap (λ (z : ℕ). z / down e) (zero-mul unit) ∙ zero-div (down e), ap (λ (z : ℕ). z / down e) h.1 ∙ mul-div_cancel a (down_pos e)))

-- z is counted, and its units are within tiny of (P - N) / d
pub record Near (z : Float) (P N d : ℕ) : Type 0 where
  pub near_counts : Counts z
  pub near_below : N + over z * d ≤ P + under z * d + tiny * d
  pub near_above : P + under z * d ≤ N + over z * d + tiny * d

settle : (P N o v g d t : ℕ) → N ≤ P → o ≡ g → v ≡ 0 → g * d ≤ P - N + t * d → P - N ≤ g * d + t * d
    → (N + o * d ≤ P + v * d + t * d) × (P + v * d ≤ N + o * d + t * d)
settle P N o v g d t l e z h k =
    let e' : o * d ≡ g * d = ap (λ (w : ℕ). w * d) e in
    let z' : v * d ≡ 0 = ap (λ (w : ℕ). w * d) z ∙ zero-mul d in
    (omega arith, omega arith)

pub near : (z : Float) (P N d : ℕ) → 0 < d → T (fits binary64 z) → Rounds binary64 z P N (d * unit) → P ≤ N + 16 * (d * unit) → N ≤ P + 16 * (d * unit)
    → Near z P N d
near z P N d D f (inl u) h k =
    let A = P - N in
    let l : P - N ≤ 16 * (d * unit) = omega arith in
    let r = rounded_near A d D l in
    let v = value_over z (rounded A d) (subst (λ (w : Float). HasValue w false (rounded A d) unit) (sym u.1) (round_value false A d (rounded_small A d D l))) in
    let s = settle P N (over z) (under z) (rounded A d) d tiny u.0 v.1.0 v.1.1 r.0 r.1 in
    record { near_counts = counts z v.0 f; near_below = s.0; near_above = s.1 }
near z P N d D f (inr u) h k =
    let A = N - P in
    let l : N - P ≤ 16 * (d * unit) = omega arith in
    let r = rounded_near A d D l in
    let v = value_under z (rounded A d) (subst (λ (w : Float). HasValue w true (rounded A d) unit) (sym u.1) (round_value true A d (rounded_small A d D l))) in
    let s = settle N P (under z) (over z) (rounded A d) d tiny u.0 v.1.1 v.1.0 r.0 r.1 in
    record { near_counts = counts z v.0 f; near_below = s.1; near_above = s.0 }

module _ (x y : Float) (p : Counts x) (q : Counts y) where
  pub near_add : over x + over y ≤ under x + under y + 16 * unit → under x + under y ≤ over x + over y + 16 * unit
      → Near (add binary64 x y) (over x + over y) (under x + under y) 1
  near_add h k =
      near (add binary64 x y) (over x + over y) (under x + under y) 1 (pow_pos 0) (add-fits binary64 x y) (add_units x y p q) (omega arith) (omega arith)

  pub near_mul : over x * over y + under x * under y ≤ over x * under y + under x * over y + 16 * (unit * unit)
      → over x * under y + under x * over y ≤ over x * over y + under x * under y + 16 * (unit * unit)
      → Near (mul binary64 x y) (over x * over y + under x * under y) (over x * under y + under x * over y) unit
  near_mul h k = near (mul binary64 x y) _ _ unit unit_pos (mul-fits binary64 x y) (mul_units x y p q) h k
