-- Directions in the disk: what the test tells, that their parts are finite, and which bound the lower measure is.
use mathlib.Core.Path.{◌≡◌, refl}
use mathlib.Core.Bool.{Bool, true, false, ◌&&◌, cond}
use lib.Dec.{T}
use lib.Ieee.{Float, nan, inf, fin, binary64, mul, add, lt, le, fits}
use lib.Ieee.Bits.{is_true}
use lib.Ieee.Fits.{and_l, and_r}
use lib.Ieee.Scale.{finite}
use Rattle.rules.specs.Plane.{dot}
use Rattle.pair_bounds.specs.declared.Bounds.{Bounds}
use Rattle.pair_bounds.specs.Box.{greatest, rim, round_way, corner_of, gap_of, lower_of}

pub round_is : (x y : Float) → T (fits binary64 x) → T (fits binary64 y) → le (dot x y x y) rim ≡ round_way x y
unfolding round_way
round_is x y p q = rw (is_true (fits binary64 x) p, is_true (fits binary64 y) q)

-- ---- an infinity is beyond the rim

beyond_left : (z : Float) → T (le (add binary64 (inf false) z) rim) → ⊥
unfolding le add
beyond_left nan h = h
beyond_left (inf true) h = h
beyond_left (inf false) h = h
beyond_left (fin s m e) h = h

beyond_right : (z : Float) → T (le (add binary64 z (inf false)) rim) → ⊥
unfolding le add
beyond_right nan h = h
beyond_right (inf true) h = h
beyond_right (inf false) h = h
beyond_right (fin s m e) h = h

no_number_left : (z : Float) → T (le (add binary64 nan z) rim) → ⊥
unfolding le add
no_number_left z h = h

no_number_right : (z : Float) → T (le (add binary64 z nan) rim) → ⊥
unfolding le add
no_number_right nan h = h
no_number_right (inf s) h = h
no_number_right (fin s m e) h = h

finite_x : (x y : Float) → T (le (dot x y x y) rim) → T (finite x)
unfolding dot mul
finite_x nan y h = no_number_left (mul binary64 y y) h
finite_x (inf true) y h = beyond_left (mul binary64 y y) h
finite_x (inf false) y h = beyond_left (mul binary64 y y) h
finite_x (fin s m e) y h = tt

finite_y : (x y : Float) → T (le (dot x y x y) rim) → T (finite y)
unfolding dot mul
finite_y x nan h = no_number_right (mul binary64 x x) h
finite_y x (inf true) h = beyond_right (mul binary64 x x) h
finite_y x (inf false) h = beyond_right (mul binary64 x x) h
finite_y x (fin s m e) h = tt

-- ---- what a direction of the disk is

module _ (x y : Float) (h : T (round_way x y)) where
  pub round_x : T (fits binary64 x)
  unfolding round_way
  round_x = and_l (fits binary64 x) (fits binary64 y && le (dot x y x y) rim) h

  rest : T (fits binary64 y && le (dot x y x y) rim)
  unfolding round_way
  rest = and_r (fits binary64 x) (fits binary64 y && le (dot x y x y) rim) h

  pub round_y : T (fits binary64 y)
  round_y = and_l (fits binary64 y) (le (dot x y x y) rim) rest

  pub round_rim : T (le (dot x y x y) rim)
  round_rim = and_r (fits binary64 y) (le (dot x y x y) rim) rest

  pub round_finite : T (finite x) × T (finite y)
  round_finite = (finite_x x y round_rim, finite_y x y round_rim)

-- ---- the lower measure

module _ (r : Bool) (b : Bounds) (ax ay : Float) where
  pub lower_wide : r ≡ true → lt b.low_x b.high_x ≡ true → greatest (corner_of b ax ay) (gap_of b ax ay) ≡ lower_of r b ax ay
  unfolding lower_of
  lower_wide e h = rw (e, h)

  pub lower_thin : lt b.low_x b.high_x ≡ false → corner_of b ax ay ≡ lower_of r b ax ay
  unfolding lower_of
  lower_thin h = go r
    where
      go : (t : Bool) → corner_of b ax ay ≡ cond (t && lt b.low_x b.high_x) (greatest (corner_of b ax ay) (gap_of b ax ay)) (corner_of b ax ay)
      go true = rw h
      go false = refl

  pub lower_any : r ≡ false → corner_of b ax ay ≡ lower_of r b ax ay
  unfolding lower_of
  lower_any e = rw e
