-- What is read follows from its words alone.
use Prim.Native.Nat.{ℕ, ◌<◌}
use mathlib.Core.Path.{◌≡◌, ap₂}
use mathlib.Core.List.{List}
use native.Mathlib.Omega.{arith}
use native.Mathlib.Nat.{add-zero}
use lib.ListN.{get_or}
use lib.Ieee.{binary64, of_bits}
use Rattle.pair_bounds.specs.Search.{place}
use Rattle.pair_bounds.specs.Reading.{bounds_at, place_at, SameWords}

start : (w w' : List ℕ) (k words : ℕ) → 0 < words → SameWords w w' k words → get_or w' k 0 ≡ get_or w k 0
start w w' k words h f = rw add-zero at (f 0 h)

pub bounds_alone : (w w' : List ℕ) (k : ℕ) → SameWords w w' k 5 → bounds_at w' k ≡ bounds_at w k
unfolding bounds_at
bounds_alone w w' k f =
    λ i. record {
      low_x = of_bits binary64 (start w w' k 5 (omega arith) f i);
      low_y = of_bits binary64 (f 1 (omega arith) i);
      high_x = of_bits binary64 (f 2 (omega arith) i);
      high_y = of_bits binary64 (f 3 (omega arith) i);
      first = f 4 (omega arith) i;
    }

pub place_alone : (w w' : List ℕ) (k : ℕ) → SameWords w w' k 2 → place_at w' k ≡ place_at w k
unfolding place_at
place_alone w w' k f = ap₂ place (start w w' k 2 (omega arith) f) (f 1 (omega arith))
