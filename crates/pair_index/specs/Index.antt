-- The index over the ends of a pairing: which leaf is whose, and what a query gives.
use Rattle.std.specs.Prelude.{ℕ, ◌+◌, ◌*◌, ◌^◌, ◌≤◌, ◌<◌, ◌≡◌, Bool, true, false, cond, not, ◌||◌, ◌⊎◌, List, length, Option, Some, None, T, Float}
use Rattle.std.specs.Float.{binary64}
use Rattle.std.specs.Float.Ieee.{fits, is_nan}
use Rattle.std.specs.Float.Ieee.Scale.{finite}
use Rattle.rules.specs.Answers.{Direction}
use Rattle.rules.specs.Answers.{Absent, Toward}
use Rattle.rules.specs.Selecting.{End, Pair, qualifying, before}
use Rattle.float_order.specs.Key.{key}
use Rattle.pair_bounds.specs.declared.Bounds.{Bounds}
use Rattle.pair_bounds.specs.Box.{empty_of, point_of, round_way}
use Rattle.pair_laws.specs.Ranked.{RankedPair, Node, candidates, busy}
use Rattle.pair_laws.specs.Ranked as ranked
use Rattle.pair_laws.specs.Sets.{In, EndOf}
use Rattle.pair_laws.specs.Ends.{end_at, keyed}
use Rattle.pair_ends.specs.Ends.{EndsRoom, ends_in}
use Rattle.pair_tree.specs.Places.{gone}
use Rattle.pair_index.specs.declared.Best.{Best}
use Rattle.pair_index.specs.Nodes.{Indexes}
use Rattle.pair_index.specs.Search.{round_at}

-- the pair that is found; its j is 0 where there is none
abbrev pub pair_of : Option Best → RankedPair
pair_of None = record { key = 0; i = 0; j = 0 }
pair_of (Some b) = record { key = b.key; i = b.i; j = b.j }

-- the box of a direction, with the end's index
abbrev pub box_of : Direction → ℕ → Bounds
box_of Absent e = empty_of
box_of (Toward x y) e = point_of x y e

-- the leaf of end e: its direction where it is present and free
abbrev pub leaf_of : List End → (ℕ → Bool) → ℕ → Bounds
leaf_of l used e = cond (used e) empty_of (box_of (end_at l e).direction e)

-- The ends below d stand at leaves, each at one: end e at `pos e`, and at the leaf p the end `order p`. Any order will do.
pub record LeavesPlaced (order pos : ℕ → ℕ) (d base : ℕ) : Type 0 where
  pub seat : (e : ℕ) → e < d → order (pos e) ≡ e
  pub within : (e : ℕ) → e < d → pos e < base
  pub back : (p : ℕ) → p < base → order p < d → pos (order p) ≡ p

-- the index of the free ends
abbrev pub Indexed : List ℕ → ℕ → ℕ → List End → (ℕ → Bool) → (ℕ → ℕ) → Type 0
Indexed w t base l used order = Indexes w t base (λ p. leaf_of l used (order p))

-- each direction is absent or finite
abbrev pub Finite : List End → Type 0
Finite l = (e : ℕ) (x y : Float) → (end_at l e).direction ≡ Toward x y → T (finite x) × T (finite y)

-- each direction is absent or in the disk
abbrev pub Round : List End → Type 0
Round l = (e : ℕ) (x y : Float) → (end_at l e).direction ≡ Toward x y → T (round_way x y)

-- the note behind the index tells the truth
abbrev pub Noted : List ℕ → ℕ → List End → Type 0
Noted w d l = round_at w d ≡ true → Round l

-- what a query asks
pub record Query (w : List ℕ) (d t height limit o : ℕ) : Type 0 where
  pub room : EndsRoom w d
  pub inside : t + 10 * 2 ^ height ≤ length w
  pub limited : limit < gone
  pub within : o < d
  pub finite_ends : Finite (ends_in w d)
  pub noted : Noted w d (ends_in w d)
  pub used : ℕ → Bool
  pub order : ℕ → ℕ
  pub pos : ℕ → ℕ
  pub placed : LeavesPlaced order pos d (2 ^ height)
  pub indexed : Indexed w t (2 ^ height) (ends_in w d) used order

-- o is an end of the pair p, and no end of p is taken
abbrev pub FreeOf : (ℕ → Bool) → ℕ → Pair → Type 0
FreeOf used o p = ((o ≡ p.i) ⊎ (o ≡ p.j)) × ((used p.i || used p.j) ≡ false)

-- b is the end o's first qualifying pair, in the order, among the ends that are free; where its j is 0 there is none
pub record FirstPair (limit : Float) (l : List End) (used : ℕ → Bool) (o : ℕ) (b : RankedPair) : Type 0 where
  pub nothing : b.j ≡ 0 → (q : Pair) → In q (qualifying limit l) → FreeOf used o q → ⊥
  pub found : 0 < b.j → (p : Pair) × (keyed p ≡ b) × In p (qualifying limit l) × FreeOf used o p
      × ((q : Pair) → In q (qualifying limit l) → FreeOf used o q → before q p ≡ false)

-- the same by keys, as the search compares them
pub record RankedFirst (n : Node) (limit : ℕ) (used : ℕ → Bool) (o : ℕ) (p : RankedPair) : Type 0 where
  pub nothing : p.j ≡ 0 → (q : RankedPair) → In q (candidates n limit) → busy used q ≡ false → EndOf o q → ⊥
  pub member : 0 < p.j → In p (candidates n limit)
  pub free : 0 < p.j → busy used p ≡ false
  pub owned : 0 < p.j → EndOf o p
  pub first : 0 < p.j → (q : RankedPair) → In q (candidates n limit) → busy used q ≡ false → EndOf o q → ranked.before q p ≡ false

-- k is the key of the limit
pub record KeyOf (limit : Float) (k : ℕ) : Type 0 where
  pub fitting : T (fits binary64 limit)
  pub number : T (not (is_nan limit))
  pub is : key limit ≡ k

-- whatever ends are taken, if the index is that of the ends left, in whatever order, and o is one of them
abbrev pub FirstOf : List ℕ → ℕ → ℕ → ℕ → ℕ → ℕ → RankedPair → Type 0
FirstOf w d t height k o b =
    (used : ℕ → Bool) (order pos : ℕ → ℕ) → LeavesPlaced order pos d (2 ^ height) → Indexed w t (2 ^ height) (ends_in w d) used order → used o ≡ false
    → (limit : Float) → KeyOf limit k → FirstPair limit (ends_in w d) used o b

-- what a query gives
pub record Answers (w : List ℕ) (d t height limit o : ℕ) (b : RankedPair) : Type 0 where
  pub first : FirstOf w d t height limit o b
  pub i_below : b.i < d
  pub j_below : b.j < d
