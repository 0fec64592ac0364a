-- The gap's measure of a box of the disk is at most the measure with each direction in it: the gap of a side is between 0 and the sum of the two directions there,
-- and for such a number the law of the disk holds.
use mathlib.Core.Logic.{◌⊎◌, inl, inr}
use mathlib.Core.Bool.{Bool, true, false, cond}
use lib.Dec.{T}
use lib.Ieee.{Float, binary64, add, sub, lt, le, is_nan, fits}
use lib.Ieee.Fits.{add-fits, sub-fits, cond-fits}
use lib.Ieee.Scale.{finite}
use Rattle.rules.specs.Plane.{nought, clamp, measure}
use Rattle.float_order.proofs.Order.{refl_le, lt_to_le, total, finite_num}
use Rattle.float_order.proofs.Mono.{add_mono, add_num}
use Rattle.float_order.proofs.Dot.{clamp_fits}
use Rattle.pair_bounds.specs.declared.Bounds.{Bounds}
use Rattle.pair_bounds.specs.Box.{greatest, beyond, round_way, gap, half_square, gap_of, Sound, BoxHolds}
use Rattle.pair_bounds.proofs.Round.{round_x, round_y, round_rim, round_finite}
use Rattle.pair_bounds.proofs.Disk.{TowardZero, near_x, near_y}

gap_fits : (a low high : Float) → T (fits binary64 (gap a low high))
unfolding gap fits
gap_fits a low high =
    cond-fits binary64 (lt nought (add binary64 low a)) (add binary64 low a) _ (add-fits binary64 low a)
    (cond-fits binary64 (lt (add binary64 high a) nought) (add binary64 high a) nought (add-fits binary64 high a) tt)

gap_toward : (a low high z : Float) → T (finite a) → T (finite low) → T (finite high) → T (finite z) → T (le low z) → T (le z high)
    → TowardZero (gap a low high) (add binary64 z a)
unfolding gap
gap_toward a low high z fa fl fh fz h k =
    let s = add binary64 z a in
    let u = add binary64 low a in
    let v = add binary64 high a in
    let self = refl_le a (finite_num a fa) in
    let over : T (le u s) = add_mono binary64 low z a a h self (add_num binary64 low a fl fa) (add_num binary64 z a fz fa) in
    let under : T (le s v) = add_mono binary64 z high a a k self (add_num binary64 z a fz fa) (add_num binary64 high a fh fa) in
    go (lt nought u) (lt v nought) s u v over under (lt_to_le nought u) (lt_to_le v nought) (total s nought (add_num binary64 z a fz fa) (unfold is_nan in tt))
  where
    go : (p q : Bool) (s u v : Float) → T (le u s) → T (le s v) → (T p → T (le nought u)) → (T q → T (le v nought)) → T (le s nought) ⊎ T (le nought s)
        → TowardZero (cond p u (cond q v nought)) s
    go true q s u v a b c d e = inl (c tt, a)
    go false true s u v a b c d e = inr (b, d tt)
    go false false s u v a b c d (inl e) = inr (e, unfold le in tt)
    go false false s u v a b c d (inr e) = inl (unfold le in tt, e)

pub gap_of_fits : (b : Bounds) (ax ay : Float) → T (fits binary64 (gap_of b ax ay))
unfolding gap_of
gap_of_fits b ax ay = clamp_fits (sub binary64 _ beyond) (sub-fits binary64 _ beyond)

module _ (b : Bounds) (s : Sound b) (ax ay x y : Float) (r : T (round_way ax ay)) (o : T (round_way x y)) (w : BoxHolds b x y) where
  pub gap_bound : T (le (gap_of b ax ay) (measure ax ay x y))
  unfolding gap_of greatest
  gap_bound =
      let fax = (round_finite ax ay r).0 in
      let fay = (round_finite ax ay r).1 in
      let fx = (round_finite x y o).0 in
      let fy = (round_finite x y o).1 in
      let gx = gap ax b.low_x b.high_x in
      let gy = gap ay b.low_y b.high_y in
      go (lt (half_square gx) (half_square gy)) (half_square gx) (half_square gy)
      (near_x ax ay x y fax fay fx fy (round_x ax ay r) (round_y ax ay r) (round_x x y o) (round_y x y o) (round_rim ax ay r) (round_rim x y o)
      gx (gap_fits ax b.low_x b.high_x) (gap_toward ax b.low_x b.high_x x fax s.low_x_finite s.high_x_finite fx w.from_low_x w.to_high_x))
      (near_y ax ay x y fax fay fx fy (round_x ax ay r) (round_y ax ay r) (round_x x y o) (round_y x y o) (round_rim ax ay r) (round_rim x y o)
      gy (gap_fits ay b.low_y b.high_y) (gap_toward ay b.low_y b.high_y y fay s.low_y_finite s.high_y_finite fy w.from_low_y w.to_high_y))
    where
      go : (t : Bool) (m n : Float) → T (le (clamp (sub binary64 m beyond)) (measure ax ay x y)) → T (le (clamp (sub binary64 n beyond)) (measure ax ay x y))
          → T (le (clamp (sub binary64 (cond t n m) beyond)) (measure ax ay x y))
      go true m n p q = q
      go false m n p q = p
