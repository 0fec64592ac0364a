-- Boxes as numbers: an extent has the values that a box has the bits of.
use Rattle.std.specs.Prelude.{◌<◌, ◌^◌, ◌≡◌, not, cond, T, Float}
use Rattle.std.specs.Float.{binary64}
use Rattle.std.specs.Float.Ieee.{lt, is_nan, to_bits}
use Rattle.rules.specs.declared.Box.{Box}
use Rattle.rules.specs.Plane.{float}
use Rattle.box_levels.specs.declared.Extent.{Extent}

-- the lesser and the greater of two values, and of equal ones the first
unfoldable pub lower : Float → Float → Float
lower a b = cond (lt b a) b a

unfoldable pub higher : Float → Float → Float
higher a b = cond (lt a b) b a

unfoldable pub joined : Extent → Extent → Extent
joined a b =
    record {
      least_x = lower a.least_x b.least_x;
      least_y = lower a.least_y b.least_y;
      greatest_x = higher a.greatest_x b.greatest_x;
      greatest_y = higher a.greatest_y b.greatest_y;
    }

-- from a box to its values, and back
abbrev pub extent_of : Box → Extent
extent_of b =
    record {
      least_x = float b.least_x;
      least_y = float b.least_y;
      greatest_x = float b.greatest_x;
      greatest_y = float b.greatest_y;
    }

unfoldable pub boxed_of : Extent → Box
boxed_of e =
    record {
      least_x = to_bits binary64 e.least_x;
      least_y = to_bits binary64 e.least_y;
      greatest_x = to_bits binary64 e.greatest_x;
      greatest_y = to_bits binary64 e.greatest_y;
    }

-- no value is a NaN
pub record Real (e : Extent) : Type 0 where
  pub low_x : T (not (is_nan e.least_x))
  pub from_low_y : T (not (is_nan e.least_y))
  pub to_high_x : T (not (is_nan e.greatest_x))
  pub to_high_y : T (not (is_nan e.greatest_y))

-- e has the values of b, whose numbers have 64 binary digits
pub record Boxed (e : Extent) (b : Box) : Type 0 where
  pub is : e ≡ extent_of b
  pub low_x : b.least_x < 2 ^ 64
  pub from_low_y : b.least_y < 2 ^ 64
  pub to_high_x : b.greatest_x < 2 ^ 64
  pub to_high_y : b.greatest_y < 2 ^ 64
