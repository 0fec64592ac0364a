-- Refusals 15, 6 and 7 of building, as tests of numbers.
use Rattle.std.specs.Prelude.{ℕ, ◌+◌, Bool, not, ◌&&◌, ◌||◌, List, [], ◌∷◌, eqb, ltb, Float}
use Rattle.std.specs.List.{list_any}
use Rattle.std.specs.Float.Ieee.Scale.{finite}
use Rattle.rules.specs.Lists.{one}
use Rattle.rules.specs.Plane.{float}
use Rattle.rules.specs.Refusals.{limit_bad}

-- how many of the numbers are no place's: NaN or infinite
unfoldable pub wild_of : List ℕ → ℕ
wild_of [] = 0
wild_of (b ∷ l) = one (not (finite (float b))) + wild_of l

unfoldable pub switch_bad : ℕ → Float → Bool
switch_bad switch limit = ltb 1 switch || (eqb switch 1 && limit_bad limit)

-- a room is shorter than what is asked of it: each is a length and what is asked
abbrev pub any_short : List (ℕ × ℕ) → Bool
any_short l = list_any (λ (r : ℕ × ℕ). ltb r.0 r.1) l
