-- Two directions of the unit disk, or hardly beyond it: their measure is not below half the square of one part of their sum, less what is a little beyond 1.
-- In reals a · b = (|a + b|² - |a|² - |b|²) / 2. All is counted in units of 2 ^ -1074, and `beyond` is above `rim` by far more than the rounding.
use mathlib.Core.Path.{◌≡◌, refl, ap, subst}
use mathlib.Core.Logic.{◌⊎◌, inl, inr}
use mathlib.Core.Bool.{Bool, true, false, not}
use Prim.Native.Nat.{ℕ, ◌+◌, ◌-◌, ◌*◌, ◌≤◌, ◌<◌}
use native.Mathlib.Nat.{mul-le-mul, mul-le-mul_left, mul-le-mul_right, le_of_mul-le-mul_right, mul-pos}
use native.Mathlib.Omega.{arith}
use lib.IntN.{pos, negsuc}
use lib.Dec.{T, leb, leb→le, nleb→lt}
use lib.Pow.{pow_pos}
use lib.Ieee.{Float, nan, inf, fin, binary64, neg, round, add, sub, mul, le, is_nan, fits}
use lib.Ieee.Scale.{finite}
use Rattle.rules.specs.Plane.{nought, clamp, dot, measure}
use Rattle.float_order.proofs.Order.{trans, le_num_l, le_num_r, at_top, at_bottom}
use Rattle.float_order.proofs.Mono.{Rounds, rounds_mono, add_mono, add_num}
use Rattle.float_order.proofs.Near.{unit, tiny, unit_is, unit_pos, tiny_pos, over, under, Counts, counts, le_to_units, add_units, mul_units, Near, near_add, near_mul}
use Rattle.float_order.proofs.Dot.{clamp_mono}
use Rattle.pair_bounds.specs.Box.{rim, beyond, half, half_square}

-- ---- whole numbers: a pair p, n stands for p - n
abbrev gap : ℕ → ℕ → ℕ
gap u v = u - v + (v - u)

gap_square : (u v : ℕ) → u * u + v * v ≡ u * v + v * u + gap u v * gap u v
gap_square u v = go (leb u v) (leb→le u v) (nleb→lt u v)
  where
    square : (a b d : ℕ) → b ≡ a + d → (a * a + b * b ≡ a * b + b * a + d * d) × (b * b + a * a ≡ b * a + a * b + d * d)
    square a b d e = rw e (omega arith, omega arith)

    go : (t : Bool) → (T t → u ≤ v) → (T (not t) → v < u) → u * u + v * v ≡ u * v + v * u + gap u v * gap u v
    go true h k =
        let l = h tt in
        let e : gap u v ≡ v - u = omega arith in
        rw e (square u v (v - u) (omega arith)).0
    go false h k =
        let l = k tt in
        let e : gap u v ≡ u - v = omega arith in
        rw e (square v u (u - v) (omega arith)).1

square_pos : (u v : ℕ) → u * v + v * u ≤ u * u + v * v
square_pos u v = omega (arith, gap_square u v)

-- a square of B * B at most: the number is B at most
root_le : (d B : ℕ) → d * d ≤ B * B → d ≤ B
root_le d B h = go (leb d B) (leb→le d B) (nleb→lt d B)
  where
    go : (t : Bool) → (T t → d ≤ B) → (T (not t) → B < d) → d ≤ B
    go true f g = f tt
    go false f g = absurd (let l = g tt in omega (arith, mul-le-mul l l))

gap_le : (u v B : ℕ) → u * u + v * v ≤ u * v + v * u + B * B → gap u v ≤ B
gap_le u v B h = root_le (gap u v) B (omega (arith, gap_square u v))

-- a product by the sizes of its factors
spread : (p n q m B C : ℕ) → p ≤ n + B → n ≤ p + B → q ≤ m + C → m ≤ q + C → p * q + n * m ≤ p * m + n * q + B * C
spread p n q m B C h i k l = go (leb p n) (leb→le p n) (nleb→lt p n)
  where
    part : (p n d q m : ℕ) → p ≡ n + d → d ≤ B → q ≤ m + C → p * q + n * m ≤ p * m + n * q + B * C
    part p n d q m e a b = rw e (omega (arith, mul-le-mul_left d b, mul-le-mul_right C a))

    go : (t : Bool) → (T t → p ≤ n) → (T (not t) → n < p) → p * q + n * m ≤ p * m + n * q + B * C
    go true f g = let a = f tt in omega (arith, part n p (n - p) m q (omega arith) (omega arith) l)
    go false f g = let a = g tt in part p n (p - n) q m (omega arith) (omega arith) k

-- a product of two numbers whose squares are B at most
cross_le : (a b x y B : ℕ) → a * a + b * b ≤ a * b + b * a + B → x * x + y * y ≤ x * y + y * x + B
    → (a * x + b * y ≤ a * y + b * x + B) × (a * y + b * x ≤ a * x + b * y + B)
cross_le a b x y B h k = (omega (arith, square_pos (a + y) (b + x)), omega (arith, square_pos (a + x) (b + y)))

-- a sum of two numbers whose squares are 2 at most
sum_gap : (a b x y S : ℕ) → a * a + b * b ≤ a * b + b * a + 2 * (S * S) → x * x + y * y ≤ x * y + y * x + 2 * (S * S) → gap (x + a) (y + b) ≤ 4 * S
sum_gap a b x y S h k = gap_le (x + a) (y + b) (4 * S) (omega (arith, square_pos (a + y) (b + x)))

-- from units of units to units
shrink : (P N o v k S t : ℕ) → 0 < S → P ≤ N + k * (S * S) → N + o * S ≤ P + v * S + t * S → o ≤ v + k * S + t
shrink P N o v k S t U h i = le_of_mul-le-mul_right {k = S} (omega arith) U

-- ---- the constants in units
abbrev two : Float
two = fin false 1 (pos 1)

rim_units : (over rim ≡ 1099511631872 * tiny) × (under rim ≡ 0)
unfolding over under unit tiny
rim_units = (refl, refl)

half_units : (over half ≡ 549755813888 * tiny) × (under half ≡ 0)
unfolding over under unit tiny
half_units = (refl, refl)

-- `sub` adds this
abbrev less_beyond : Float
less_beyond = fin true 134217729 (negsuc 26)

beyond_units : (over less_beyond ≡ 0) × (under less_beyond ≡ 1099511635968 * tiny)
unfolding over under unit tiny
beyond_units = (refl, refl)

nought_units : (over nought ≡ 0) × (under nought ≡ 0)
unfolding over under unit
nought_units = (refl, refl)

constants : Counts rim × (Counts half × (Counts less_beyond × Counts nought))
unfolding fits
constants = (counts rim tt tt, (counts half tt tt, (counts less_beyond tt tt, counts nought tt tt)))

-- ---- a direction in the disk
-- the product of x and y is agree - oppose
abbrev agree : Float → Float → ℕ
agree x y = over x * over y + under x * under y

abbrev oppose : Float → Float → ℕ
oppose x y = over x * under y + under x * over y

two_rounds : Rounds binary64 two 2 0 1
unfolding round
two_rounds = inl (omega arith, refl)

nought_rounds : Rounds binary64 nought 0 0 1
unfolding round
nought_rounds = inl (omega arith, refl)

from_two : (x : Float) → Counts x → oppose x x + 2 * (unit * unit) ≤ agree x x → T (le two (mul binary64 x x))
from_two x c h =
    rounds_mono binary64 two (mul binary64 x x) 2 0 1 (agree x x) (oppose x x) (unit * unit) (pow_pos 0) (mul-pos unit_pos unit_pos) two_rounds (mul_units x x c c) (omega arith)

from_nought : (x : Float) → Counts x → T (le nought (mul binary64 x x))
from_nought x c =
    rounds_mono binary64 nought (mul binary64 x x) 0 0 1 (agree x x) (oppose x x) (unit * unit) (pow_pos 0) (mul-pos unit_pos unit_pos) nought_rounds (mul_units x x c c) (omega (arith, square_pos (over x) (under x)))

reaches : (a b x y : Float) → T (finite a) → T (finite b) → T (le a (mul binary64 x x)) → T (le b (mul binary64 y y)) → T (le (dot x y x y) rim) → T (le (add binary64 a b) rim)
unfolding dot
reaches a b x y fa fb p q r =
    let d = add binary64 (mul binary64 x x) (mul binary64 y y) in
    trans (add binary64 a b) d rim
    (add_mono binary64 a (mul binary64 x x) b (mul binary64 y y) p q (add_num binary64 a b fa fb) (le_num_l d rim r)) r

too_far : (T (le (add binary64 two nought) rim) → ⊥) × (T (le (add binary64 nought two) rim) → ⊥)
unfolding le add
too_far = (λ h. h, λ h. h)

small : (P B : ℕ) → (B ≤ P → ⊥) → P ≤ B
small P B f = go (leb P B) (leb→le P B) (nleb→lt P B)
  where
    go : (t : Bool) → (T t → P ≤ B) → (T (not t) → B < P) → P ≤ B
    go true g h = g tt
    go false g h = absurd (f (let l = h tt in omega arith))

around : (P N Q M p n q m o v S t : ℕ) → P + n * S ≤ N + p * S + t * S → Q + m * S ≤ M + q * S + t * S → p + q + v * 1 ≤ n + m + o * 1 + t * 1
    → o ≤ 1099511631872 * t + v → P + Q ≤ N + M + 1099511631875 * (t * S)
around P N Q M p n q m o v S t h k l i =
    let l' : (p + q + v * 1) * S ≤ (n + m + o * 1 + t * 1) * S = mul-le-mul_right S l in
    let i' : o * S ≤ (1099511631872 * t + v) * S = mul-le-mul_right S i in
    omega arith

pub record Disk (x y : Float) : Type 0 where
  pub count_x : Counts x
  pub count_y : Counts y
  pub small_x : agree x x ≤ oppose x x + 2 * (unit * unit)
  pub small_y : agree y y ≤ oppose y y + 2 * (unit * unit)
  pub near_one : agree x x + agree y y ≤ oppose x x + oppose y y + 1099511631875 * (tiny * unit)

pub disk : (x y : Float) → Counts x → Counts y → T (le (dot x y x y) rim) → Disk x y
unfolding dot
disk x y c d r =
    let sx : agree x x ≤ oppose x x + 2 * (unit * unit) = small _ _ (λ h. too_far.0 (reaches two nought x y tt tt (from_two x c h) (from_nought y d) r)) in
    let sy : agree y y ≤ oppose y y + 2 * (unit * unit) = small _ _ (λ h. too_far.1 (reaches nought two x y tt tt (from_nought x c) (from_two y d h) r)) in
    let ox = square_pos (over x) (under x) in
    let oy = square_pos (over y) (under y) in
    let p = near_mul x x c c (omega arith) (omega arith) in
    let q = near_mul y y d d (omega arith) (omega arith) in
    let xx = mul binary64 x x in
    let yy = mul binary64 y y in
    let a = shrink (agree x x) (oppose x x) (over xx) (under xx) 2 unit tiny unit_pos sx p.near_below in
    let b = shrink (agree y y) (oppose y y) (over yy) (under yy) 2 unit tiny unit_pos sy q.near_below in
    let e = shrink (oppose x x) (agree x x) (under xx) (over xx) 0 unit tiny unit_pos (omega arith) p.near_above in
    let f = shrink (oppose y y) (agree y y) (under yy) (over yy) 0 unit tiny unit_pos (omega arith) q.near_above in
    let s = near_add xx yy p.near_counts q.near_counts (omega (arith, unit_is)) (omega (arith, unit_is)) in
    let l = le_to_units (add binary64 xx yy) rim s.near_counts constants.0 r in
    record {
      count_x = c;
      count_y = d;
      small_x = sx;
      small_y = sy;
      near_one =
          around (agree x x) (oppose x x) (agree y y) (oppose y y) (over xx) (under xx) (over yy) (under yy) (over (add binary64 xx yy)) (under (add binary64 xx yy)) unit tiny
          p.near_above q.near_above s.near_above (omega (arith, rim_units));
    }

-- ---- a number between 0 and a sum
abbrev pub TowardZero : Float → Float → Type 0
TowardZero g s = (T (le nought g) × T (le g s)) ⊎ (T (le s g) × T (le g nought))

between_finite : (a g b : Float) → T (finite a) → T (finite b) → T (le a g) → T (le g b) → T (finite g)
between_finite a nan b p q h k = absurd (unfold is_nan in le_num_r a nan h)
between_finite a (inf true) b p q h k = absurd (subst (λ (z : Float). T (finite z)) (at_bottom a h) p)
between_finite a (inf false) b p q h k = absurd (subst (λ (z : Float). T (finite z)) (at_top b k) q)
between_finite a (fin s m e) b p q h k = tt

record Short (g : Float) (u v : ℕ) : Type 0 where
  count_g : Counts g
  short : gap (over g) (under g) ≤ gap u v + tiny
  wide : gap u v ≤ 4 * unit

shorter : (g x a : Float) → Counts x → Counts a → agree x x ≤ oppose x x + 2 * (unit * unit) → agree a a ≤ oppose a a + 2 * (unit * unit)
    → T (fits binary64 g) → TowardZero g (add binary64 x a) → Short g (over x + over a) (under x + under a)
shorter g x a c d h k f t =
    let w : gap (over x + over a) (under x + under a) ≤ 4 * unit = sum_gap (over a) (under a) (over x) (under x) unit k h in
    let n = near_add x a c d (omega arith) (omega arith) in
    go n.near_counts n.near_below n.near_above w t
  where
    go : Counts (add binary64 x a) → under x + under a + over (add binary64 x a) * 1 ≤ over x + over a + under (add binary64 x a) * 1 + tiny * 1
        → over x + over a + under (add binary64 x a) * 1 ≤ under x + under a + over (add binary64 x a) * 1 + tiny * 1
        → gap (over x + over a) (under x + under a) ≤ 4 * unit → TowardZero g (add binary64 x a) → Short g (over x + over a) (under x + under a)
    go n i j w (inl u) =
        let e = counts g (between_finite nought g (add binary64 x a) tt n.counts_finite u.0 u.1) f in
        let l = le_to_units nought g constants.1.1.1 e u.0 in
        let m = le_to_units g (add binary64 x a) e n u.1 in
        record { count_g = e; short = omega (arith, nought_units); wide = w }
    go n i j w (inr u) =
        let e = counts g (between_finite (add binary64 x a) g nought n.counts_finite tt u.0 u.1) f in
        let l = le_to_units g nought e constants.1.1.1 u.1 in
        let m = le_to_units (add binary64 x a) g n e u.0 in
        record { count_g = e; short = omega (arith, nought_units); wide = w }

-- its square
squares : (p n u v S t : ℕ) → t ≤ S → gap p n ≤ gap u v + t → gap u v ≤ 4 * S → p * p + n * n + (u * v + v * u) ≤ p * n + n * p + (u * u + v * v) + 9 * (t * S)
squares p n u v S t l h k = go (gap p n) (gap u v) h k (gap_square p n) (gap_square u v)
  where
    plain : (A B C E m d td tt' ts : ℕ) → A ≡ B + m → C ≡ E + d → m ≤ d + 2 * td + tt' → td ≤ 4 * ts → tt' ≤ ts → A + E ≤ B + C + 9 * ts
    plain A B C E m d td tt' ts a b c e f = omega arith

    go : (M D : ℕ) → M ≤ D + t → D ≤ 4 * S → p * p + n * n ≡ p * n + n * p + M * M → u * u + v * v ≡ u * v + v * u + D * D
        → p * p + n * n + (u * v + v * u) ≤ p * n + n * p + (u * u + v * v) + 9 * (t * S)
    go M D a b e i =
        let x : M * M ≤ (D + t) * (D + t) = mul-le-mul a a in
        let y : t * D ≤ t * (4 * S) = mul-le-mul_left t b in
        let z : t * t ≤ t * S = mul-le-mul_left t l in
        plain (p * p + n * n) (p * n + n * p) (u * u + v * v) (u * v + v * u) (M * M) (D * D) (t * D) (t * t) (t * S) e i (omega arith) (omega arith) z

-- ---- half of its square
halved : (p n q m k l S t : ℕ) → 0 < q → S ≡ 2 * q → m ≡ 0 → p * m + n * q + k * S ≤ p * q + n * m + l * S + t * S → n + 2 * k ≤ p + 2 * l + 2 * t
halved p n q m k l S t Q e z h =
    le_of_mul-le-mul_right {k = q}
    (omega (arith, ap (λ (w : ℕ). p * w) z, ap (λ (w : ℕ). n * w) z, ap (λ (w : ℕ). k * w) e, ap (λ (w : ℕ). l * w) e, ap (λ (w : ℕ). t * w) e)) Q

record Square (g : Float) : Type 0 where
  square_counts : Counts (half_square g)
  square_le : oppose g g + 2 * (over (half_square g) * unit) ≤ agree g g + 2 * (under (half_square g) * unit) + 12 * (tiny * unit)

squared : (p n k l o v S t : ℕ) → p ≤ n + 5 * S → n ≤ p + 5 * S → n + 2 * k ≤ p + 2 * l + 2 * t → p + 2 * l ≤ n + 2 * k + 2 * t
    → p * l + n * k + o * S ≤ p * k + n * l + v * S + t * S → p * n + n * p + 2 * (o * S) ≤ p * p + n * n + 2 * (v * S) + 12 * (t * S)
squared p n k l o v S t a b c d h = omega (arith, spread p n (2 * k + n) (2 * l + p) (5 * S) (2 * t) a b (omega arith) (omega arith))

square : (g : Float) → Counts g → gap (over g) (under g) ≤ 5 * unit → Square g
unfolding half_square
square g c w =
    let k = mul binary64 g half in
    let a : over g ≤ under g + 5 * unit = omega arith in
    let b : under g ≤ over g + 5 * unit = omega arith in
    let q : over half ≤ under half + unit = omega (arith, half_units, unit_is) in
    let m : under half ≤ over half + unit = omega (arith, half_units, unit_is) in
    let n = near_mul g half c constants.1.0
    (omega (arith, spread (over g) (under g) (over half) (under half) (5 * unit) unit a b q m))
    (omega (arith, spread (over g) (under g) (under half) (over half) (5 * unit) unit a b m q)) in
    let Q : 0 < over half = omega (arith, half_units, tiny_pos) in
    let e : unit ≡ 2 * over half = omega (arith, half_units, unit_is) in
    let i : under g + 2 * over k ≤ over g + 2 * under k + 2 * tiny =
    halved (over g) (under g) (over half) (under half) (over k) (under k) unit tiny Q e half_units.1 n.near_below in
    let j : over g + 2 * under k ≤ under g + 2 * over k + 2 * tiny =
    halved (under g) (over g) (over half) (under half) (under k) (over k) unit tiny Q e half_units.1 (omega (arith, n.near_above)) in
    let x : over k ≤ under k + 3 * unit = omega (arith, unit_is) in
    let y : under k ≤ over k + 3 * unit = omega (arith, unit_is) in
    let r = near_mul g k c n.near_counts
    (omega (arith, spread (over g) (under g) (over k) (under k) (5 * unit) (3 * unit) a b x y))
    (omega (arith, spread (over g) (under g) (under k) (over k) (5 * unit) (3 * unit) a b y x)) in
    record {
      square_counts = r.near_counts;
      square_le = squared (over g) (under g) (over k) (under k) (over (mul binary64 g k)) (under (mul binary64 g k)) unit tiny a b i j r.near_below;
    }

-- ---- two directions
cross : (a x : Float) → Counts a → Counts x → agree a a ≤ oppose a a + 2 * (unit * unit) → agree x x ≤ oppose x x + 2 * (unit * unit)
    → Near (mul binary64 a x) (agree a x) (oppose a x) unit
cross a x c d h k =
    let l = cross_le (over a) (under a) (over x) (under x) (2 * (unit * unit)) h k in
    near_mul a x c d (omega arith) (omega arith)

-- |x + a|² in its parts
parts : (x y a b : ℕ) → (x + a) * (x + a) + (y + b) * (y + b) + (x * y + y * x) + (a * b + b * a) + 2 * (a * y + b * x)
    ≡ (x + a) * (y + b) + (y + b) * (x + a) + (x * x + y * y) + (a * a + b * b) + 2 * (a * x + b * y)
parts x y a b = omega arith

-- not below zero
parts_pos : (x y a b : ℕ) → x * y + y * x + (a * b + b * a) + 2 * (a * y + b * x) ≤ x * x + y * y + (a * a + b * b) + 2 * (a * x + b * y)
parts_pos x y a b = omega (arith, square_pos (x + a) (y + b))

conclude : (hp hn cp cn ep en S t Qg Mg D W Px Nx Pa Na Py Ny Pb Nb P1 N1 P2 N2 : ℕ) → 0 < S
    → Mg + 2 * (hp * S) ≤ Qg + 2 * (hn * S) + 12 * (t * S)
    → Qg + W ≤ Mg + D + 9 * (t * S)
    → D + Nx + Na + 2 * N1 ≡ W + Px + Pa + 2 * P1
    → Ny + Nb + 2 * N2 ≤ Py + Pb + 2 * P2
    → Px + Py ≤ Nx + Ny + 1099511631875 * (t * S)
    → Pa + Pb ≤ Na + Nb + 1099511631875 * (t * S)
    → P1 + cn * S ≤ N1 + cp * S + t * S
    → P2 + en * S ≤ N2 + ep * S + t * S
    → hp + (cn + en) ≤ cp + ep + (hn + 1099511635968 * t)
conclude hp hn cp cn ep en S t Qg Mg D W Px Nx Pa Na Py Ny Pb Nb P1 N1 P2 N2 s h1 h2 h3 h4 h5 h6 h7 h8 =
    le_of_mul-le-mul_right {k = S} (omega arith) s

swapped : (x y : Float) → Disk x y → Disk y x
swapped x y d =
    record { count_x = d.count_y; count_y = d.count_x; small_x = d.small_y; small_y = d.small_x; near_one = omega (arith, d.near_one) }

-- (x, y) and (a, b), with g between 0 and x + a
module _ (x y a b g : Float) (p : Disk x y) (q : Disk a b) (f : T (fits binary64 g)) (t : TowardZero g (add binary64 x a)) where
  short_g : Short g (over x + over a) (under x + under a)
  short_g = shorter g x a p.count_x q.count_x p.small_x q.small_x f t

  squared_g : Square g
  squared_g = let s = short_g in square g s.count_g (omega (arith, s.short, s.wide, unit_is))

  ordered : over (half_square g) + (under (mul binary64 a x) + under (mul binary64 b y)) ≤ over (mul binary64 a x) + over (mul binary64 b y) + (under (half_square g) + 1099511635968 * tiny)
  ordered =
      let s = short_g in
      let r = squared_g in
      conclude (over (half_square g)) (under (half_square g)) (over (mul binary64 a x)) (under (mul binary64 a x)) (over (mul binary64 b y)) (under (mul binary64 b y)) unit tiny
      (agree g g) (oppose g g)
      ((over x + over a) * (over x + over a) + (under x + under a) * (under x + under a))
      ((over x + over a) * (under x + under a) + (under x + under a) * (over x + over a))
      (agree x x) (oppose x x) (agree a a) (oppose a a) (agree y y) (oppose y y) (agree b b) (oppose b b) (agree a x) (oppose a x) (agree b y) (oppose b y)
      unit_pos r.square_le
      (squares (over g) (under g) (over x + over a) (under x + under a) unit tiny (omega (arith, unit_is)) s.short s.wide)
      (parts (over x) (under x) (over a) (under a)) (parts_pos (over y) (under y) (over b) (under b))
      p.near_one q.near_one
      (cross a x q.count_x p.count_x q.small_x p.small_x).near_above
      (cross b y q.count_y p.count_y q.small_y p.small_y).near_above

-- ---- back to floats
sub_beyond : (h : Float) → sub binary64 h beyond ≡ add binary64 h less_beyond
unfolding sub neg
sub_beyond h = refl

times : (a b c d u : ℕ) → a + b ≤ c + d → a * (1 * u) + b * (1 * u) ≤ c * (1 * u) + d * (1 * u)
times a b c d u h = omega (arith, mul-le-mul_right u h)

finish : (h c e : Float) → Counts h → Counts c → Counts e → over h + (under c + under e) ≤ over c + over e + (under h + 1099511635968 * tiny)
    → T (le (sub binary64 h beyond) (add binary64 c e))
finish h c e p q r l =
    rw (sub_beyond h)
    (rounds_mono binary64 (add binary64 h less_beyond) (add binary64 c e) (over h + over less_beyond) (under h + under less_beyond) (1 * unit)
    (over c + over e) (under c + under e) (1 * unit) (mul-pos (pow_pos 0) unit_pos) (mul-pos (pow_pos 0) unit_pos)
    (add_units h less_beyond p constants.1.1.0) (add_units c e q r)
    (times (over h + over less_beyond) (under c + under e) (over c + over e) (under h + under less_beyond) unit (omega (arith, beyond_units))))

-- ---- the law
module _ (ax ay x y : Float)
    (fax : T (finite ax)) (fay : T (finite ay)) (fx : T (finite x)) (fy : T (finite y))
    (vax : T (fits binary64 ax)) (vay : T (fits binary64 ay)) (vx : T (fits binary64 x)) (vy : T (fits binary64 y))
    (ra : T (le (dot ax ay ax ay) rim)) (rb : T (le (dot x y x y) rim)) where
  first_way : Disk ax ay
  first_way = disk ax ay (counts ax fax vax) (counts ay fay vay) ra

  second_way : Disk x y
  second_way = disk x y (counts x fx vx) (counts y fy vy) rb

  product_x : Counts (mul binary64 ax x)
  product_x =
      (cross ax x first_way.count_x second_way.count_x first_way.small_x second_way.small_x).near_counts

  product_y : Counts (mul binary64 ay y)
  product_y =
      (cross ay y first_way.count_y second_way.count_y first_way.small_y second_way.small_y).near_counts

  pub near_x : (g : Float) → T (fits binary64 g) → TowardZero g (add binary64 x ax) → T (le (clamp (sub binary64 (half_square g) beyond)) (measure ax ay x y))
  unfolding measure dot
  near_x g f t =
      clamp_mono (sub binary64 (half_square g) beyond) (dot ax ay x y)
      (finish (half_square g) (mul binary64 ax x) (mul binary64 ay y) (squared_g x y ax ay g second_way first_way f t).square_counts product_x product_y
      (ordered x y ax ay g second_way first_way f t))

  pub near_y : (g : Float) → T (fits binary64 g) → TowardZero g (add binary64 y ay) → T (le (clamp (sub binary64 (half_square g) beyond)) (measure ax ay x y))
  unfolding measure dot
  near_y g f t =
      let p = swapped x y second_way in
      let q = swapped ax ay first_way in
      clamp_mono (sub binary64 (half_square g) beyond) (dot ax ay x y)
      (finish (half_square g) (mul binary64 ax x) (mul binary64 ay y) (squared_g y x ay ax g p q f t).square_counts product_x product_y
      (omega (arith, ordered y x ay ax g p q f t)))
