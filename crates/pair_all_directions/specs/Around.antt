-- Directions that are absent or finite, the box around them, and those that are too far from a box.
use Rattle.std.specs.Prelude.{ℕ, zero, suc, ◌<◌, ◌≡◌, Bool, true, false, ◌&&◌, ltb}
use Rattle.std.specs.Float.Ieee.Scale.{finite}
use Rattle.rules.specs.Answers.{Direction}
use Rattle.rules.specs.Answers.{Absent, Toward}
use Rattle.float_order.specs.Key.{low_key}
use Rattle.pair_bounds.specs.declared.Bounds.{Bounds}
use Rattle.pair_bounds.specs.Box.{empty_of, point_of, union_of, round_way, corner_of}

-- r tells whether p holds of each number below d
pub record Every (p : ℕ → Bool) (d : ℕ) (r : Bool) : Type 0 where
  pub yes : r ≡ true → (e : ℕ) → e < d → p e ≡ true
  pub other : r ≡ false → (e : ℕ) × (e < d) × (p e ≡ false)

-- a direction is absent or finite
unfoldable pub tame : Direction → Bool
tame Absent = true
tame (Toward x y) = finite x && finite y

-- a direction is absent or in the disk
unfoldable pub round_of : Direction → Bool
unfolding round_way
round_of Absent = true
round_of (Toward x y) = round_way x y

-- the least box around a box and a direction
unfoldable pub joined_of : Bounds → Direction → Bounds
joined_of b Absent = b
joined_of b (Toward x y) = union_of b (point_of x y 0)

-- the least box around the first n directions
unfoldable pub around_of : (ℕ → Direction) → ℕ → Bounds
around_of way zero = empty_of
around_of way (suc n) = joined_of (around_of way n) (way n)

-- a direction is absent, or its measure with the nearest corner of the box is above the limit
unfoldable pub beyond_of : Bounds → ℕ → Direction → Bool
beyond_of b limit Absent = true
beyond_of b limit (Toward x y) = ltb limit (low_key (corner_of b x y))

-- direction e of d is absent or finite, and too far from the box around all of them
abbrev pub idle_of : (ℕ → Direction) → ℕ → ℕ → ℕ → Bool
idle_of way d limit e = tame (way e) && beyond_of (around_of way d) limit (way e)
