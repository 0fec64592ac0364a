-- Numbers without the one that is left over are the same points, and nothing more.
use Prim.Native.Nat.{ℕ, ◌*◌, ◌/◌}
use mathlib.Core.Path.{◌≡◌, ◌∙◌}
use mathlib.Core.List.{List}
use native.Mathlib.Omega.{arith}
use lib.ListN.{length, take}
use lib.Seq.{length-take-le, take_all}
use Rattle.rules.specs.Plane.{points}
use Rattle.point_numbers.specs.Width.{Whole}
use Rattle.point_numbers.proofs.Points.{points_length, points_take}

module _ (l : List ℕ) where
  pub trimmed_long : length (take (length l / 2 * 2) l) ≡ length l / 2 * 2
  trimmed_long = length-take-le (length l / 2 * 2) l (omega arith)

  pub trimmed_whole : Whole 2 (take (length l / 2 * 2) l)
  trimmed_whole = record { number = length l / 2; long = trimmed_long }

  pub trimmed_points : points 2 (take (length l / 2 * 2) l) ≡ points 2 l
  trimmed_points =
      points_take 2 l (length l / 2) (omega arith) (omega arith)
      ∙ take_all (length l / 2) (points 2 l) (omega (arith, points_length 2 l))
