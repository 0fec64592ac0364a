-- The plain test of a chain's coordinates: whether their extent overlaps or touches a window.
use Rattle.std.specs.Prelude.{Bool, ◌&&◌, List}
use Rattle.std.specs.Float.Ieee.{le}
use Rattle.rules.specs.declared.Window.{Window}
use Rattle.rules.specs.Lists.{any_of}
use Rattle.rules.specs.Plane.{Point, float}

-- along x a point is at or before the window's end, and one at or behind its beginning; and so along y
unfoldable pub spans : Window → List Point → Bool
spans w l =
    (any_of (λ p. le (float p.x) w.greatest_x) l && any_of (λ p. le w.least_x (float p.x)) l)
    && (any_of (λ p. le (float p.y) w.greatest_y) l && any_of (λ p. le w.least_y (float p.y)) l)
