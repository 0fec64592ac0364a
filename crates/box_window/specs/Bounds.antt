-- Bounds of a window among the bits of numbers from zero on, which are in order as the numbers are.
use Rattle.std.specs.Prelude.{ℕ, ◌+◌, ◌≤◌, ◌≡◌, leb, ltb, Float}
use Rattle.std.specs.Float.Ieee.{le}
use Rattle.rules.specs.declared.Window.{Window}
use Rattle.rules.specs.Plane.{float}
use Rattle.box_window.specs.declared.Sides.{Sides}

-- the bits of the infinity above zero, which is the last of these numbers
abbrev pub infinite : ℕ
infinite = 0x7ff0_0000_0000_0000

-- the bits from r on are those of numbers that are at least x
pub record AtLeast (x : Float) (r : ℕ) : Type 0 where
  pub decides : (n : ℕ) → n ≤ infinite → le x (float n) ≡ leb r n

-- the bits before r are those of numbers that are at most x
pub record AtMost (x : Float) (r : ℕ) : Type 0 where
  pub decides : (n : ℕ) → n ≤ infinite → le (float n) x ≡ ltb n r
  pub most : r ≤ infinite + 1

pub record Sided (w : Window) (s : Sides) : Type 0 where
  pub at_least_x : AtLeast w.least_x s.first_x
  pub at_least_y : AtLeast w.least_y s.first_y
  pub at_greatest_x : AtMost w.greatest_x s.past_x
  pub at_greatest_y : AtMost w.greatest_y s.past_y
