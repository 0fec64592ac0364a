-- The groups of pieces.
use Rattle.std.specs.Prelude.{ℕ, ◌<◌, ◌≡◌, List, length, get_or}
use Rattle.rules.specs.Chaining.{Piece, nothing}

-- the pieces have points, and the group of a piece is that of its first line
pub record OneGroup (groups : List ℕ) (ps : List Piece) : Type 0 where
  pub line : (q : ℕ) → q < length ps → get_or (get_or ps q nothing).lines 0 0 < length groups
  pub long : (q : ℕ) → q < length ps → 0 < length (get_or ps q nothing).points
  pub group : (q : ℕ) → q < length ps → get_or groups (get_or (get_or ps q nothing).lines 0 0) 0 ≡ (get_or ps q nothing).group
