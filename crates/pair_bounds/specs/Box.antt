-- Boxes of directions: the words of the contracts of `Bounds`, and what it is for a box to hold a direction.
use Rattle.std.specs.Prelude.{Bool, true, false, ◌&&◌, cond, ℕ, ◌-◌, ◌^◌, min, pos, negsuc, T, Float}
use Rattle.std.specs.Float.{fin, binary64}
use Rattle.std.specs.Float.Ieee.{add, sub, mul, lt, le, fits}
use Rattle.std.specs.Float.Ieee.Scale.{finite}
use Rattle.rules.specs.Plane.{nought, clamp, dot, measure}
use Rattle.pair_bounds.specs.declared.Bounds.{Bounds}

unfoldable pub least : Float → Float → Float
least a b = cond (lt b a) b a

unfoldable pub greatest : Float → Float → Float
greatest a b = cond (lt a b) b a

-- the greatest finite value, with a sign
abbrev pub most : Bool → Float
most s = fin s (2 ^ 53 - 1) (pos 971)

abbrev pub empty_of : Bounds
empty_of = record { low_x = most false; low_y = most false; high_x = most true; high_y = most true; first = 2 ^ 64 - 1 }

-- the box of one direction, with its index
abbrev pub point_of : Float → Float → ℕ → Bounds
point_of x y i = record { low_x = x; low_y = y; high_x = x; high_y = y; first = i }

abbrev pub union_of : Bounds → Bounds → Bounds
union_of a b =
    record {
      low_x = least a.low_x b.low_x;
      low_y = least a.low_y b.low_y;
      high_x = greatest a.high_x b.high_x;
      high_y = greatest a.high_y b.high_y;
      first = min a.first b.first;
    }

-- the end of low .. high whose product with a is the least
unfoldable pub corner : Float → Float → Float → Float
corner a low high = cond (lt a nought) high low

-- the measure with that corner of the box
unfoldable pub corner_of : Bounds → Float → Float → Float
unfolding measure corner
corner_of b ax ay = measure ax ay (corner ax b.low_x b.high_x) (corner ay b.low_y b.high_y)

-- ---- directions in the unit disk, or hardly beyond it

-- 1 + 2 ^ -28
abbrev pub rim : Float
rim = fin false 268435457 (negsuc 27)

-- 1 + 2 ^ -27
abbrev pub beyond : Float
beyond = fin false 134217729 (negsuc 26)

abbrev pub half : Float
half = fin false 1 (negsuc 0)

-- in the disk: its dot product with itself is at most the rim. Every f64 fits
unfoldable pub round_way : Float → Float → Bool
unfolding dot
round_way x y = fits binary64 x && (fits binary64 y && le (dot x y x y) rim)

-- what is least, in size, of a + z for z in low .. high
unfoldable pub gap : Float → Float → Float → Float
gap a low high = cond (lt nought (add binary64 low a)) (add binary64 low a) (cond (lt (add binary64 high a) nought) (add binary64 high a) nought)

-- half of its square
unfoldable pub half_square : Float → Float
half_square g = mul binary64 g (mul binary64 g half)

-- Two directions a and b of the disk have a dot product of (|a + b| ^ 2 - |a| ^ 2 - |b| ^ 2) / 2, so that one side of a + b bounds it; what is taken away covers the rim
-- and every rounding.
unfoldable pub gap_of : Bounds → Float → Float → Float
unfolding clamp gap half_square greatest
gap_of b ax ay =
    clamp (sub binary64 (greatest (half_square (gap ax b.low_x b.high_x)) (half_square (gap ay b.low_y b.high_y))) beyond)

-- A measure that none of (ax, ay) with a direction in the box is below; r says that all are in the disk. The corner of a box of no width is a direction of its own
unfoldable pub lower_of : Bool → Bounds → Float → Float → Float
unfolding corner_of gap_of greatest
lower_of r b ax ay = cond (r && lt b.low_x b.high_x) (greatest (corner_of b ax ay) (gap_of b ax ay)) (corner_of b ax ay)

-- every end is finite
pub record Sound (b : Bounds) : Type 0 where
  pub low_x_finite : T (finite b.low_x)
  pub low_y_finite : T (finite b.low_y)
  pub high_x_finite : T (finite b.high_x)
  pub high_y_finite : T (finite b.high_y)

-- (x, y) is in the box
pub record BoxHolds (b : Bounds) (x y : Float) : Type 0 where
  pub from_low_x : T (le b.low_x x)
  pub to_high_x : T (le x b.high_x)
  pub from_low_y : T (le b.low_y y)
  pub to_high_y : T (le y b.high_y)
