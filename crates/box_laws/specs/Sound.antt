-- What the laws of boxes ask: places, boxes without a NaN, and the boxes of a level.
use Rattle.std.specs.Prelude.{ℕ, not, List, T}
use Rattle.std.specs.Float.Ieee.{is_nan}
use Rattle.std.specs.Float.Ieee.Scale.{finite}
use Rattle.rules.specs.declared.Box.{Box}
use Rattle.rules.specs.Plane.{Point, float}
use Rattle.chain_laws.proofs.Counts.{Each}

-- no NaN
abbrev pub Number : ℕ → Type 0
Number a = T (not (is_nan (float a)))

-- a point whose x and y are finite
pub record BoxPlace (p : Point) : Type 0 where
  pub across : T (finite (float p.x))
  pub up : T (finite (float p.y))

abbrev pub Places : List Point → Type 0
Places l = Each BoxPlace l

-- a box without a NaN
pub record BoxSound (b : Box) : Type 0 where
  pub low_x : Number b.least_x
  pub from_low_y : Number b.least_y
  pub to_high_x : Number b.greatest_x
  pub to_high_y : Number b.greatest_y

abbrev pub Sounds : List Box → Type 0
Sounds l = Each BoxSound l
