-- How a box and a place stand in a list of words.
use Rattle.std.specs.Prelude.{ℕ, ◌+◌, ◌<◌, ◌≡◌, List, get_or}
use Rattle.std.specs.Float.{binary64}
use Rattle.std.specs.Float.Ieee.{of_bits}
use Rattle.pair_bounds.specs.declared.Bounds.{Bounds}
use Rattle.pair_bounds.specs.Search.{place}

-- a box in five words from k on: the bits of its four ends, and its first index
unfoldable pub bounds_at : List ℕ → ℕ → Bounds
bounds_at w k =
    record {
      low_x = of_bits binary64 (get_or w k 0);
      low_y = of_bits binary64 (get_or w (k + 1) 0);
      high_x = of_bits binary64 (get_or w (k + 2) 0);
      high_y = of_bits binary64 (get_or w (k + 3) 0);
      first = get_or w (k + 4) 0;
    }

-- a place in two, as one number: its key, and what decides between equal keys
unfoldable pub place_at : List ℕ → ℕ → ℕ
place_at w k = place (get_or w k 0) (get_or w (k + 1) 0)

-- so many words from k on are the same
abbrev pub SameWords : List ℕ → List ℕ → ℕ → ℕ → Type 0
SameWords w w' k words = (i : ℕ) → i < words → get_or w' (k + i) 0 ≡ get_or w (k + i) 0
