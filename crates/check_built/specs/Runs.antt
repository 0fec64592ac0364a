-- Runs of points that are passed one behind another, and that each meets the next.
use Rattle.std.specs.Prelude.{ℕ, Bool, true, ◌&&◌, get_or}
use mathlib.Core.List.{List, [], ◌∷◌, map, flat_map, reverse}
use Rattle.rules.specs.declared.Meeting.{Meeting}
use Rattle.rules.specs.Plane.{Point, point}
use Rattle.rules.specs.Chaining.{Piece, Line}
use Rattle.rules.specs.Check.{meet}
use Rattle.chain_extras.specs.Bare.{own_points}
use Rattle.chain_travel.specs.Travel.{drawn, mark_of}

-- the first point of a run, and its last
abbrev pub first_of : List Point → Point
first_of r = get_or r 0 (point 0 0)

abbrev pub last_of : List Point → Point
last_of r = first_of (reverse r)

unfoldable pub meets_all : Meeting → List (List Point) → Bool
meets_all m [] = true
meets_all m (r ∷ []) = true
meets_all m (r ∷ s ∷ rs) = meet m (last_of r) (first_of s) && meets_all m (s ∷ rs)

-- the same runs from the other end
abbrev pub turned_runs : List (List Point) → List (List Point)
turned_runs rs = map (λ (r : List Point). reverse r) (reverse rs)

-- the lines of a listing as they are passed, each a run
unfoldable pub runs_by : List Line → List ℕ → List ℕ → List ℕ → List (List Point)
runs_by ls members marks listing = flat_map (λ k. drawn (mark_of members marks k) (own_points ls k) ∷ []) listing

abbrev pub runs_of : List Line → Piece → List (List Point)
runs_of ls p = runs_by ls p.lines p.marks p.listing
