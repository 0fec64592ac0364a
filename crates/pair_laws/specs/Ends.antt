-- From the book's ends to ranked selection: a node of ends by their places, and a pair with its measure's key.
use Rattle.std.specs.Prelude.{ℕ, suc, ◌<◌, ◌≡◌, Bool, true, false, not, ◌&&◌, List, [], ◌∷◌, length, eqb}
use Rattle.rules.specs.Answers.{Direction}
use Rattle.rules.specs.Answers.{Absent, Toward}
use Rattle.rules.specs.Plane.{measure}
use Rattle.rules.specs.Selecting.{End, Pair}
use Rattle.float_order.specs.Key.{key_nan, key}
use Rattle.pair_laws.specs.Ranked.{Node}
use Rattle.pair_laws.specs.Ranked as ranked
-- the end at a place of the list, as the book has it
pub use Rattle.rules.specs.Reasons.{end_of as end_at}

abbrev pub name_at : List End → ℕ → ℕ
name_at l e = (end_at l e).name

-- a direction is present
unfoldable pub there : Direction → Bool
there Absent = false
there (Toward x y) = true

-- the key of the measure of two directions; where one is absent the greatest key, which is above every limit's
unfoldable pub key_of : Direction → Direction → ℕ
unfolding key measure
key_of Absent d = key_nan
key_of (Toward ax ay) Absent = key_nan
key_of (Toward ax ay) (Toward bx by) = key (measure ax ay bx by)

-- the node of a list of ends, each known by its place
abbrev pub node_of : List End → Node
node_of l =
    record {
      d = length l;
      may = λ i j. there (end_at l i).direction && (there (end_at l j).direction && not (eqb (end_at l i).piece (end_at l j).piece));
      key = λ i j. key_of (end_at l i).direction (end_at l j).direction;
    }

-- the ends are listed by name
pub record ByName (l : List End) : Type 0 where
  pub rises : (a b : ℕ) → a < b → b < length l → name_at l a < name_at l b

-- an end is named by its place
pub record ByPlace (l : List End) : Type 0 where
  pub placed : (a : ℕ) → a < length l → name_at l a ≡ a

-- a pair with its measure's key
abbrev pub keyed : Pair → ranked.RankedPair
keyed p = record { key = key p.size; i = p.i; j = p.j }

-- an end, and a pair, with other names
abbrev pub named : (ℕ → ℕ) → End → End
named f a = record { name = f a.name; piece = a.piece; direction = a.direction }

abbrev pub renamed : (ℕ → ℕ) → Pair → Pair
renamed f p = record { size = p.size; i = f p.i; j = f p.j }

-- the ends, each named by its place; k is that of the first
unfoldable pub placed : ℕ → List End → List End
placed k [] = []
placed k (a ∷ l) = record { name = k; piece = a.piece; direction = a.direction } ∷ placed (suc k) l

-- the two ends of a pair by name, and of a pair of places by the names there
abbrev pub sides : Pair → ℕ × ℕ
sides p = (p.i, p.j)

abbrev pub sides_by : (ℕ → ℕ) → ranked.RankedPair → ℕ × ℕ
sides_by name q = (name q.i, name q.j)
