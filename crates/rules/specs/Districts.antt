-- 02 [10]: two districts in one call. Which groups are whose, and how much a district brings: every line and every coordinate counts, those of lines that
-- pass through too. District 0 is the first, and 1 the second.
use Rattle.std.specs.Prelude.{◌+◌, ◌^◌, ◌||◌, ◌∷◌}
use Rattle.rules.specs.Library.{ℕ, Bool, true, false, List, [], length, get_or, drop, ltb, eqb}
use Rattle.rules.specs.Lists.{keep}

-- the second district's first group
abbrev pub border : ℕ
border = 2 ^ 31

-- how much each may bring
abbrev pub most_district_lines : ℕ
most_district_lines = 2048

abbrev pub most_district_points : ℕ
most_district_points = 32768

unfoldable pub district_of : ℕ → ℕ
district_of group = elim (ltb group border) [ true ↦ 0 | false ↦ 1 ]

-- whether a group is of district d
unfoldable pub is_of : ℕ → ℕ → Bool
is_of d group = eqb d (district_of group)

-- how many lines district d brings, by the lines' groups
unfoldable pub lines_brought : ℕ → List ℕ → ℕ
lines_brought d groups = length (keep (is_of d) groups)

-- how many coordinates, by the lines' counts and groups
unfoldable pub points_brought : ℕ → List ℕ → List ℕ → ℕ
points_brought d [] groups = 0
points_brought d (c ∷ counts) groups = elim (is_of d (get_or groups 0 0)) [ true ↦ c | false ↦ 0 ] + points_brought d counts (drop 1 groups)

-- a district over its lines
unfoldable pub over_lines : List ℕ → Bool
over_lines groups = ltb most_district_lines (lines_brought 0 groups) || ltb most_district_lines (lines_brought 1 groups)

-- over its coordinates
unfoldable pub over_points : List ℕ → List ℕ → Bool
over_points counts groups = ltb most_district_points (points_brought 0 counts groups) || ltb most_district_points (points_brought 1 counts groups)
