-- Marks looked at one after another.
use Prim.Native.Nat.{ℕ, ◌≤◌, ◌<◌}
use mathlib.Core.Path.{◌≡◌}
use mathlib.Core.List.{List}
use lib.ListN.{get_or}

-- none of the marks from a to before b is there
abbrev pub Gone : List ℕ → ℕ → ℕ → Type 0
Gone marks a b = (j : ℕ) → a ≤ j → j < b → get_or marks j 0 ≡ 0
