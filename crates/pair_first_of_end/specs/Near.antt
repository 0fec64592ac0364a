-- Directions and how near they are to each other, as a walk along a row compares them. What is absent has a NaN for a dot product, which never qualifies.
use Rattle.std.specs.Prelude.{ℕ, Bool, false, not, ◌&&◌, ◌||◌, Option, Some, None, Float}
use Rattle.std.specs.Float.{nan}
use Rattle.std.specs.Float.Ieee.{lt, eq, le, is_nan}
use Rattle.rules.specs.Answers.{Direction}
use Rattle.rules.specs.Answers.{Absent, Toward}
use Rattle.rules.specs.Plane.{unity, clamp, dot}
use Rattle.pair_first_of_end.specs.declared.Near.{Near}

-- a direction of two numbers; an end that has none is of no qualifying pair
unfoldable pub numbered : Direction → Bool
numbered Absent = false
numbered (Toward x y) = not (is_nan x) && not (is_nan y)

unfoldable pub dot_of : Direction → Direction → Float
unfolding dot
dot_of Absent b = nan
dot_of (Toward ax ay) Absent = nan
dot_of (Toward ax ay) (Toward bx by) = dot ax ay bx by

unfoldable pub measure_of : Direction → Direction → Float
unfolding clamp dot_of
measure_of a b = clamp (dot_of a b)

-- a dot product that is at or below a measure, or a measure that every dot product is at or below once it is clamped
unfoldable pub reaches_to : Float → Float → Bool
reaches_to d m = le d m || eq m unity

-- at or below the limit where there is no partner yet, and below the least seen where there is one
unfoldable pub below_of : Option ℕ → Float → Float → Bool
below_of None m least = le m least
below_of (Some j) m least = lt m least

abbrev pub closer_to : Near → Float → Bool
closer_to near m = below_of near.partner m near.measure
