-- What a pairing call lends, and its workspace: d marks, two words for each direction, in bits, and d piece numbers stand at the beginning.
use Rattle.std.specs.Prelude.{ℕ, ◌+◌, ◌*◌, ◌≤◌, ◌<◌, ◌≡◌, List, ◌++◌, map, T, Float, length, get_or}
use Rattle.std.specs.Float.{nan, binary64}
use Rattle.std.specs.Float.Ieee.{fits}
use Rattle.rules.specs.Layout.{ends}
use Rattle.rules.specs.Calls.{written}
use Rattle.float_bits.specs.Bits.{bits_of}
use Rattle.point_slices.specs.Holds.{HoldsFrom}
use Rattle.pair_ends.specs.Ends.{EndsRoom, ends_in}

-- the words that the ends are kept as
unfoldable pub lent_words : List ℕ → List Float → List ℕ → List ℕ
unfolding bits_of
lent_words present directions pieces = present ++ map bits_of directions ++ pieces

-- a mark and two numbers for each piece number, and room for them
pub record Matched (w present : List ℕ) (directions : List Float) (pieces : List ℕ) : Type 0 where
  pub room : EndsRoom w (length pieces)
  pub marked : length present ≡ length pieces
  pub directed : length directions ≡ length pieces * 2

-- floats are written as bits, and each is a float of 64 bits, so that its bits tell it
pub record DirectionsKept (w' w : List ℕ) (at : ℕ) (directions : List Float) : Type 0 where
  pub holds : HoldsFrom w' w at (length directions) (map bits_of directions)
  pub doubles : (i : ℕ) → T (fits binary64 (get_or directions i nan))

-- the ends are written over the beginning of w, and a route finds there what was lent
pub record Put (w' w present : List ℕ) (directions : List Float) (pieces : List ℕ) : Type 0 where
  pub list : w' ≡ written (lent_words present directions pieces) w
  pub held : ends_in w' (length pieces) ≡ ends 0 present directions pieces

-- n words from a place on are numbers of 32 binary digits, and the output has room for them
pub record Takeable (w : List ℕ) (at n : ℕ) (pairs : List ℕ) : Type 0 where
  pub within : at + n ≤ length w
  pub room : n ≤ length pairs
  pub small : (i : ℕ) → i < n → get_or w (at + i) 0 < 4294967296
