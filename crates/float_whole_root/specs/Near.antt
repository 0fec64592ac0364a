-- What makes a whole number the nearest one to a root, and what a test of a guess answers. There is no tie, since no whole number is the square of a middle.
use Rattle.std.specs.Prelude.{ℕ, ◌+◌, ◌*◌, ◌≤◌, ◌<◌, Option, IfSome, IsNone}

-- r is nearest to the root of c, for a c above 0: (r - 1/2) ^ 2 < c < (r + 1/2) ^ 2, without the quarters
pub record Near (c r : ℕ) : Type 0 where
  pub under : r * r < c + r
  pub over : c ≤ r * r + r

-- r is the number nearest to the root of c where that is g - 1, g or g + 1, and none where it is none of them
pub record Settles (c g : ℕ) (r : Option ℕ) : Type 0 where
  pub near : IfSome r (Near c)
  pub beside : IfSome r (λ s. (g ≤ s + 1) × (s ≤ g + 1))
  pub elsewhere : IsNone r → (s : ℕ) → g ≤ s + 1 → s ≤ g + 1 → Near c s → ⊥
