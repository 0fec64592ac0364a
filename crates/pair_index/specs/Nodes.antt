-- The index as a row of nodes in a list of words, from t on, a box in five words each.
use Rattle.std.specs.Prelude.{ℕ, List}
use Rattle.pair_bounds.specs.declared.Bounds.{Bounds}
use Rattle.pair_bounds.specs.Box.{empty_of, union_of, Sound}
use Rattle.pair_bounds.specs.Reading.{bounds_at}
use Rattle.pair_tree.specs.Flat.{NodesKept}
use Rattle.pair_tree.specs.Rows.{row, RowHas, RowPut, RowRoom, RowLeaves, RowJoined, RowWhole, RowSets}

abbrev pub node_at : List ℕ → ℕ → ℕ → Bounds
node_at w t n = row bounds_at 5 w t n

-- what reading node n asks
abbrev pub Has : List ℕ → ℕ → ℕ → Type 0
Has w t n = RowHas bounds_at 5 Sound w t n

-- node n is b, and nothing else is changed
abbrev pub IndexPut : List ℕ → List ℕ → ℕ → ℕ → Bounds → Type 0
IndexPut w w' t n b = RowPut bounds_at 5 w w' t n b

-- ---- the tree

-- each leaf is in its place, and every other node is the union of its children
abbrev pub Indexes : List ℕ → ℕ → ℕ → (ℕ → Bounds) → Type 0
Indexes w t base l = NodesKept union_of Sound (node_at w t) base 1 0 l

-- room for a tree with `base` leaves
abbrev pub IndexRoom : List ℕ → ℕ → ℕ → Type 0
IndexRoom w t base = RowRoom 5 w t base

-- what joining the leaves asks, and what it gives
abbrev pub Leaves : List ℕ → ℕ → ℕ → Type 0
Leaves w t base = RowLeaves bounds_at 5 Sound w t base

abbrev pub IndexJoined : List ℕ → List ℕ → ℕ → ℕ → Type 0
IndexJoined w w' t base = RowJoined bounds_at 5 union_of Sound w w' t base

-- what emptying the leaf p asks, and what it gives
abbrev pub IndexWhole : List ℕ → ℕ → ℕ → ℕ → Type 0
IndexWhole w t base p = RowWhole bounds_at 5 union_of Sound w t base p

abbrev pub Removes : List ℕ → List ℕ → ℕ → ℕ → ℕ → Type 0
Removes w w' t base p = RowSets bounds_at 5 union_of Sound w w' t base p empty_of
