-- 02, Heights and measures: the types of OGC 06-103r4 that a call may hold, and how many numbers a coordinate has.
use Rattle.rules.specs.Library.{ℕ, Bool, true, false, eqb}

-- The width of a type: x, y and the extras. Type 2 has none, 1002 (Z) and 2002 (M) have one, 3002 (ZM) has two; 0 for a number that is no type.
unfoldable pub width_of : ℕ → ℕ
width_of t =
    elim (eqb t 2) [ true ↦ 2 | false ↦ elim (eqb t 1002) [ true ↦ 3 | false ↦ elim (eqb t 2002) [ true ↦ 3 | false ↦ elim (eqb t 3002) [ true ↦ 4 | false ↦ 0 ] ] ] ]

abbrev pub no_type : ℕ → Bool
no_type t = eqb (width_of t) 0
