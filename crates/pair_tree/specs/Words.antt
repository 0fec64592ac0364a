-- What a function that writes a part of a lent slice leaves as it was.
use Rattle.std.specs.Prelude.{ℕ, ◌≤◌, ◌<◌, ◌≡◌, List, length, get_or}

-- w' is w but for the words from a to b
pub record Changes (w w' : List ℕ) (a b : ℕ) : Type 0 where
  pub long : length w' ≡ length w
  pub below : (k : ℕ) → k < a → get_or w' k 0 ≡ get_or w k 0
  pub beyond : (k : ℕ) → b ≤ k → get_or w' k 0 ≡ get_or w k 0
