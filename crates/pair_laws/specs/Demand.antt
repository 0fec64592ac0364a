-- Demand 3 at the outputs of two pairing calls.
use Rattle.std.specs.Prelude.{ℕ, ◌*◌, ◌≤◌, ◌≡◌, List, take, Float}
use Rattle.std.specs.Float.Ieee.{le}
use Rattle.rules.specs.Lists.{keep}
use Rattle.rules.specs.Selecting.{Pair}
use Rattle.rules.specs.Layout.{listed}

-- n₂ pairs are written to pairs₂, those selected; n₁ to pairs₁, those of them whose measure isn't above the limit; and they stand at the beginning of pairs₂
pub record Begins (limit : Float) (selected : List Pair) (n₁ n₂ : ℕ) (pairs₁ pairs₂ : List ℕ) : Type 0 where
  pub fewer : n₁ ≤ n₂
  pub all : take (n₂ * 2) pairs₂ ≡ listed selected
  pub low : take (n₁ * 2) pairs₁ ≡ listed (keep (λ p. le p.size limit) selected)
  pub begins : take (n₁ * 2) pairs₂ ≡ take (n₁ * 2) pairs₁
