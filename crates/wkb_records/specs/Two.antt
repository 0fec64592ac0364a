-- 02, WKB in, as it was before there were heights: type 2 alone, and 12 for any other.
use Rattle.std.specs.Prelude.{ℕ, true, false, not, ◌||◌, ◌≡◌, List, [], ◌∷◌, eqb, ltb, length}
use Rattle.rules.specs.Lists.{total}
use Rattle.rules.specs.Refusals.{first_of}
use Rattle.rules.specs.Types.{no_type}
use Rattle.rules.specs.Wkb.{byte_order, type_of, count_of, size_of, records_of}

unfoldable pub two_refusal : List ℕ → ℕ
two_refusal r =
    first_of ((13, ltb (length r) 9) ∷ (11, ltb 1 (byte_order r)) ∷ (12, not (eqb (type_of r) 2)) ∷ (13, not (eqb (length r) (size_of 2 (count_of r)))) ∷ [])

unfoldable pub two_refusals : List (List ℕ) → ℕ
two_refusals [] = 0
two_refusals (r ∷ l) = elim (eqb (two_refusal r) 0) [ true ↦ two_refusals l | false ↦ two_refusal r ]

unfoldable pub two_run_refusal : List ℕ → List ℕ → ℕ
two_run_refusal run lengths = elim (eqb (total lengths) (length run)) [ true ↦ two_refusals (records_of lengths run) | false ↦ 13 ]

-- every record is of type 2, or of no type
unfoldable pub NoExtras : List (List ℕ) → Type 0
NoExtras [] = Unit {0}
NoExtras (r ∷ l) = (no_type (type_of r) || eqb (type_of r) 2 ≡ true) × NoExtras l
