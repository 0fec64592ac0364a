-- Boxes where they stand among lent numbers.
use Rattle.std.specs.Prelude.{ℕ, zero, suc, List, [], ◌∷◌, get_or}
use Rattle.rules.specs.declared.Box.{Box}
use Rattle.rules.specs.Boxes.{empty, box_at}

-- the n boxes from box `at` on
unfoldable pub row : List ℕ → ℕ → ℕ → List Box
row boxes at zero = []
row boxes at (suc n) = box_at boxes at ∷ row boxes (suc at) n

-- box i of a level
abbrev pub nth : List Box → ℕ → Box
nth l i = get_or l i empty
