-- The merged coordinates of lent pieces, from the first to the end of the last piece that has some: where they all are places, so are those of each piece there.
use Rattle.std.specs.Prelude.{ℕ, zero, suc, ◌+◌, ◌*◌, ◌≤◌, ◌≡◌, true, false, List, eqb, ltb, length, get_or, take}
use Rattle.rules.specs.Plane.{points}
use Rattle.rules.specs.Refusals.{any_nowhere, piece_size}

-- where the coordinates of the last of the first q records end whose source is not 0
unfoldable pub last_end : List ℕ → ℕ → ℕ
last_end pieces zero = 0
last_end pieces (suc q) =
    elim (eqb (get_or pieces (q * piece_size + 2) 0) 0) [ true ↦ last_end pieces q | false ↦ get_or pieces (q * piece_size + 3) 0 + get_or pieces (q * piece_size + 4) 0 ]

-- all of the first coordinates up to an end if they are places, and else none
unfoldable pub clean_to : ℕ → List ℕ → ℕ → ℕ
clean_to w merged end =
    elim (ltb (length merged) (end * w)) [ true ↦ 0 | false ↦ elim (any_nowhere (points w (take (end * w) merged))) [ true ↦ 0 | false ↦ end ] ]

-- the first `clean` coordinates are places
pub record FrontClean (w : ℕ) (merged : List ℕ) (clean : ℕ) : Type 0 where
  pub inside : clean * w ≤ length merged
  pub places : any_nowhere (points w (take (clean * w) merged)) ≡ false
