-- No measure with a direction in a box is below the measure with the box's corner, unless one of the two is a NaN: each product with the corner is the least of its
-- side, and sums and clamping keep the order. So the low key of the one is at most the key of the other, NaN or not (`corner_key`); and where all directions are in
-- the disk, so is that of the lower measure (`key_bound`, the law that a search cites).
use mathlib.Core.Path.{◌≡◌, refl}
use mathlib.Core.Bool.{Bool, true, false, not, ◌&&◌, cond}
use Prim.Native.Nat.{◌≤◌}
use lib.Dec.{T}
use lib.Ieee.{Float, binary64, mul, lt, le, is_nan, fits}
use lib.Ieee.Fits.{cond-fits}
use lib.Ieee.Scale.{finite}
use Rattle.rules.specs.Plane.{nought, dot, measure}
use Rattle.float_order.specs.Key.{key_nan, key, low_key}
use Rattle.float_order.proofs.Mono.{mul_up, mul_down, add_mono}
use Rattle.float_order.proofs.Dot.{clamp_mono, clamp_num, measure_fits}
use Rattle.float_order.proofs.Keys.{low_key_bound, low_key_most}
use Rattle.pair_bounds.specs.declared.Bounds.{Bounds}
use Rattle.pair_bounds.specs.Box.{greatest, round_way, corner, corner_of, gap_of, lower_of, Sound, BoxHolds}
use Rattle.pair_bounds.proofs.Apart.{gap_of_fits, gap_bound}

-- one side: the corner's product is the least
side : (a low high b : Float) → T (finite a) → T (finite low) → T (finite high) → T (finite b) → T (le low b) → T (le b high)
    → T (le (mul binary64 a (corner a low high)) (mul binary64 a b))
unfolding corner
side a low high b fa fl fh fb h k =
    go (lt a nought)
    (λ (n : T (lt a nought)). mul_down binary64 a b high fa fb fh n k)
    (λ (n : T (not (lt a nought))). mul_up binary64 a low b fa fl fb n h)
  where
    go : (n : Bool) → (T n → T (le (mul binary64 a high) (mul binary64 a b))) → (T (not n) → T (le (mul binary64 a low) (mul binary64 a b)))
        → T (le (mul binary64 a (cond n high low)) (mul binary64 a b))
    go true f g = f tt
    go false f g = g tt

corner_fits : (b : Bounds) (ax ay : Float) → T (fits binary64 (corner_of b ax ay))
unfolding corner_of
corner_fits b ax ay = measure_fits ax ay (corner ax b.low_x b.high_x) (corner ay b.low_y b.high_y)

lower_fits : (r : Bool) (b : Bounds) (ax ay : Float) → T (fits binary64 (lower_of r b ax ay))
unfolding lower_of greatest
lower_fits r b ax ay =
    cond-fits binary64 (r && lt b.low_x b.high_x) _ (corner_of b ax ay)
    (cond-fits binary64 (lt (corner_of b ax ay) (gap_of b ax ay)) (gap_of b ax ay) (corner_of b ax ay) (gap_of_fits b ax ay) (corner_fits b ax ay))
    (corner_fits b ax ay)

-- every low key of a lower measure is below 2 ^ 64
pub low_key_lower : (r : Bool) (b : Bounds) (ax ay : Float) → low_key (lower_of r b ax ay) ≤ key_nan
low_key_lower r b ax ay = low_key_most (lower_of r b ax ay) (lower_fits r b ax ay)

module _ (b : Bounds) (s : Sound b) (ax ay x y : Float) (fax : T (finite ax)) (fay : T (finite ay)) (fx : T (finite x)) (fy : T (finite y)) (w : BoxHolds b x y) where
  corner_bound : T (not (is_nan (corner_of b ax ay))) → T (not (is_nan (measure ax ay x y))) → T (le (corner_of b ax ay) (measure ax ay x y))
  unfolding corner_of measure dot
  corner_bound p q =
      let cx = corner ax b.low_x b.high_x in
      let cy = corner ay b.low_y b.high_y in
      clamp_mono (dot ax ay cx cy) (dot ax ay x y)
      (add_mono binary64 (mul binary64 ax cx) (mul binary64 ax x) (mul binary64 ay cy) (mul binary64 ay y)
      (side ax b.low_x b.high_x x fax s.low_x_finite s.high_x_finite fx w.from_low_x w.to_high_x)
      (side ay b.low_y b.high_y y fay s.low_y_finite s.high_y_finite fy w.from_low_y w.to_high_y)
      (clamp_num (dot ax ay cx cy) p) (clamp_num (dot ax ay x y) q))

  -- of directions that need not be in the disk
  pub corner_key : low_key (corner_of b ax ay) ≤ key (measure ax ay x y)
  corner_key = low_key_bound (corner_of b ax ay) (measure ax ay x y) (corner_fits b ax ay) (measure_fits ax ay x y) corner_bound

  -- where r says that both are in the disk
  module _ (r : Bool) (told : r ≡ true → T (round_way ax ay) × T (round_way x y)) where
    bound : T (not (is_nan (lower_of r b ax ay))) → T (not (is_nan (measure ax ay x y))) → T (le (lower_of r b ax ay) (measure ax ay x y))
    unfolding lower_of greatest
    bound p q = go r (lt b.low_x b.high_x) (lt (corner_of b ax ay) (gap_of b ax ay)) told p
      where
        go : (t u v : Bool) → (t ≡ true → T (round_way ax ay) × T (round_way x y))
            → T (not (is_nan (cond (t && u) (cond v (gap_of b ax ay) (corner_of b ax ay)) (corner_of b ax ay))))
            → T (le (cond (t && u) (cond v (gap_of b ax ay) (corner_of b ax ay)) (corner_of b ax ay)) (measure ax ay x y))
        go true true true f n = let d = f refl in gap_bound b s ax ay x y d.0 d.1 w
        go true true false f n = corner_bound n q
        go true false v f n = corner_bound n q
        go false u v f n = corner_bound n q

    pub key_bound : low_key (lower_of r b ax ay) ≤ key (measure ax ay x y)
    key_bound = low_key_bound (lower_of r b ax ay) (measure ax ay x y) (lower_fits r b ax ay) (measure_fits ax ay x y) bound
