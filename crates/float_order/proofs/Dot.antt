-- The measure of two directions: it does not ask which comes first, it is a value of binary64, and clamping keeps the order of dot products.
use mathlib.Core.Path.{◌≡◌, ap₂}
use mathlib.Core.Bool.{Bool, true, false, not, cond}
use lib.Dec.{T}
use lib.Ieee.{Float, nan, inf, fin, binary64, add, lt, le, is_nan, fits}
use lib.Ieee.Fits.{add-fits, cond-fits}
use Rattle.rules.specs.Plane.{unity, minus_unity, clamp, dot, measure}
use Rattle.float_order.proofs.Order.{nlt_to_le, le_num_l, le_num_r, lt_of_lt_of_le, lt_of_le_of_lt}
use Rattle.float_order.proofs.Mono.{mul_sym}

pub measure_sym : (ax ay bx by : Float) → measure ax ay bx by ≡ measure bx by ax ay
unfolding measure dot
measure_sym ax ay bx by = ap₂ (λ (u v : Float). clamp (add binary64 u v)) (mul_sym binary64 ax bx) (mul_sym binary64 ay by)

pub clamp_fits : (x : Float) → T (fits binary64 x) → T (fits binary64 (clamp x))
unfolding clamp fits
clamp_fits x p = cond-fits binary64 (lt x minus_unity) minus_unity (cond (lt unity x) unity x) tt (cond-fits binary64 (lt unity x) unity x tt p)

pub measure_fits : (ax ay bx by : Float) → T (fits binary64 (measure ax ay bx by))
unfolding measure dot
measure_fits ax ay bx by = clamp_fits (dot ax ay bx by) (add-fits binary64 _ _)

-- ---- `clamp` keeps the order

clamp_low : (y : Float) → T (not (is_nan y)) → T (le minus_unity (clamp y))
unfolding clamp
clamp_low y n = go (lt y minus_unity) (lt unity y) (λ (h : T (not (lt y minus_unity))). nlt_to_le y minus_unity n (unfold is_nan in tt) h)
  where
    go : (p q : Bool) → (T (not p) → T (le minus_unity y)) → T (le minus_unity (cond p minus_unity (cond q unity y)))
    go true q f = unfold le in tt
    go false true f = unfold le in tt
    go false false f = f tt

pub clamp_num : (x : Float) → T (not (is_nan (clamp x))) → T (not (is_nan x))
unfolding clamp is_nan lt
clamp_num nan p = p
clamp_num (inf s) p = tt
clamp_num (fin s m e) p = tt

pub clamp_mono : (x y : Float) → T (le x y) → T (le (clamp x) (clamp y))
unfolding clamp
clamp_mono x y h =
    go (lt x minus_unity) (lt unity x) (lt y minus_unity) (lt unity y)
    (clamp_low y (le_num_r x y h))
    (λ (a : T (lt y minus_unity)). lt_of_le_of_lt x y minus_unity h a)
    (λ (a : T (lt unity x)). lt_of_lt_of_le unity x y a h)
    (λ (a : T (not (lt unity x))). nlt_to_le unity x (unfold is_nan in tt) (le_num_l x y h) a)
  where
    go : (p q r s : Bool) → T (le minus_unity (cond r minus_unity (cond s unity y))) → (T r → T p) → (T q → T s) → (T (not q) → T (le x unity))
        → T (le (cond p minus_unity (cond q unity x)) (cond r minus_unity (cond s unity y)))
    go true q r s low a b c = low
    go false q true s low a b c = absurd (a tt)
    go false true false true low a b c = unfold le in tt
    go false true false false low a b c = absurd (b tt)
    go false false false true low a b c = c tt
    go false false false false low a b c = h
