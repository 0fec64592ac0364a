-- Lines looked at one by one: each plain line has a mark, or one has none.
use Prim.Native.Nat.{ℕ, ◌<◌}
use mathlib.Core.Path.{◌≡◌}
use mathlib.Core.Bool.{true}
use mathlib.Core.List.{List}
use lib.ListN.{get_or}
use Rattle.build_lines.proofs.Passing.{plain_at}

-- each plain line of the first y has a mark
abbrev pub AllMarked : List ℕ → List ℕ → List ℕ → ℕ → Type 0
AllMarked seen counts kinds y = (z : ℕ) → z < y → plain_at counts kinds z ≡ true → 0 < get_or seen z 0

-- one of them has none
abbrev pub OneMissing : List ℕ → List ℕ → List ℕ → ℕ → Type 0
OneMissing seen counts kinds y = (z : ℕ) × (z < y) × (plain_at counts kinds z ≡ true) × (get_or seen z 0 ≡ 0)
