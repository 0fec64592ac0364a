-- The outer ends of a walk: the end of a piece at which it is entered, and the end at which it is left.
use Rattle.std.specs.Prelude.{ℕ, ◌-◌, List, [], ◌∷◌, length, get_or}
use Rattle.rules.specs.Walking.{other}

abbrev pub entry_of : List ℕ → ℕ
entry_of es = get_or es 0 0

abbrev pub exit_of : List ℕ → ℕ
exit_of es = other (get_or es (length es - 1) 0)

-- those of all walks, one after another
unfoldable pub outer_of : List (List ℕ) → List ℕ
outer_of [] = []
outer_of (es ∷ ws) = entry_of es ∷ exit_of es ∷ outer_of ws
