-- The keys that the ends are sorted by: where an end's direction stands on the way round, and the two words of the direction.
use Rattle.std.specs.Prelude.{ℕ, ◌+◌, ◌-◌, ◌*◌, ◌/◌, ◌^◌, ◌<◌, ◌≡◌, false, cond, List, pos, get_or, Float}
use Rattle.std.specs.Float.{fin, binary64}
use Rattle.std.specs.Float.Ieee.{add, sub, div, lt}
use Rattle.rules.specs.Answers.{Direction}
use Rattle.rules.specs.Answers.{Absent, Toward}
use Rattle.rules.specs.Plane.{nought, unity}
use Rattle.float_order.specs.Key.{key}
use Rattle.pair_ends.specs.Blocks.{sort_keys_from, groups_from}
use Rattle.pair_ends.specs.Ends.{direction_at}
use Rattle.pair_tree.specs.Words.{Changes}

abbrev pub three : Float
three = fin false 3 (pos 0)

-- the greater of x and -x
unfoldable pub size_of : Float → Float
size_of x = cond (lt x nought) (sub binary64 nought x) x

-- x by the sum of both sizes, which falls from 1 to -1 on the upper half of the way round and rises again on the lower
unfoldable pub share_of : Float → Float → Float
share_of x y = div binary64 x (add binary64 (size_of x) (size_of y))

-- the angle of (x, y): half the key of a number from 0 to 4 that rises on the way round, or of a NaN; it is below the greatest key
unfoldable pub angle_toward : Float → Float → ℕ
angle_toward x y = cond (lt y nought) (key (add binary64 three (share_of x y)) / 2) (key (sub binary64 unity (share_of x y)) / 2)

-- the angle of a direction; where it is absent, the greatest key
unfoldable pub angle_along : Direction → ℕ
angle_along Absent = 2 ^ 64 - 1
angle_along (Toward x y) = angle_toward x y

-- the angle of end e
abbrev pub angle_at : List ℕ → ℕ → ℕ → ℕ
angle_at w d e = angle_along (direction_at w d e)

-- ---- in a workspace

-- the three words of end e in w' are its angle and its direction's words in w
pub record AngleKeyed (w w' : List ℕ) (d e : ℕ) : Type 0 where
  pub angle : get_or w' (d * sort_keys_from + e * 3) 0 ≡ angle_at w d e
  pub first : get_or w' (d * sort_keys_from + e * 3 + 1) 0 ≡ get_or w (d + e * 2) 0
  pub second : get_or w' (d * sort_keys_from + e * 3 + 2) 0 ≡ get_or w (d + e * 2 + 1) 0

-- what writing the keys gives
pub record Keys (w w' : List ℕ) (d : ℕ) : Type 0 where
  pub each : (e : ℕ) → e < d → AngleKeyed w w' d e
  pub kept : Changes w w' (d * sort_keys_from) (d * groups_from)
