-- Records whose members are in a row: those of each piece begin where those of the piece before it end, and those of the first at 0.
use Rattle.std.specs.Prelude.{ℕ, zero, suc, ◌+◌, ◌*◌, Bool, true, ◌&&◌, List, eqb, get_or}
use Rattle.rules.specs.Refusals.{piece_size}

-- where the members of the q-th end
unfoldable pub row_end : List ℕ → ℕ → ℕ
row_end pieces zero = 0
row_end pieces (suc q) = get_or pieces (q * piece_size) 0 + get_or pieces (q * piece_size + 1) 0

-- the first q are in a row
unfoldable pub in_row : List ℕ → ℕ → Bool
in_row pieces zero = true
in_row pieces (suc q) = in_row pieces q && eqb (get_or pieces (q * piece_size) 0) (row_end pieces q)
