-- A tree's row of nodes in a list of words, from t on: node n in `words` words, which `at` reads; `join` makes a node of its children, and `S` says that a node
-- is sound. An index has its boxes in five words each, a heap its places in two.
use Rattle.std.specs.Prelude.{ℕ, ◌+◌, ◌*◌, ◌≤◌, ◌<◌, List, length}
use Rattle.pair_tree.specs.Flat.{Stored, changed, NodesKept, own}
use Rattle.pair_tree.specs.Words.{Changes}

-- node n
abbrev pub row : {A : Type 0} → (List ℕ → ℕ → A) → ℕ → List ℕ → ℕ → ℕ → A
row at words w t n = at w (t + words * n)

-- what reading node n asks
pub record RowHas {A : Type 0} (at : List ℕ → ℕ → A) (words : ℕ) (S : A → Type 0) (w : List ℕ) (t n : ℕ) : Type 0 where
  pub inside : t + words * n + words ≤ length w
  pub sound : S (at w (t + words * n))

-- what writing v to node n asks
pub record RowOpen {A : Type 0} (words : ℕ) (S : A → Type 0) (w : List ℕ) (t n : ℕ) (v : A) : Type 0 where
  pub inside : t + words * n + words ≤ length w
  pub sound : S v

-- node n is v, and nothing else is changed
pub record RowPut {A : Type 0} (at : List ℕ → ℕ → A) (words : ℕ) (w w' : List ℕ) (t n : ℕ) (v : A) : Type 0 where
  pub stored : Stored (row at words w t) (row at words w' t) n v
  pub kept : Changes w w' (t + words * n) (t + words * n + words)

-- what making node n of its children asks
pub record RowChildren {A : Type 0} (at : List ℕ → ℕ → A) (words : ℕ) (S : A → Type 0) (w : List ℕ) (t n : ℕ) : Type 0 where
  pub inside : t + words * (2 * n + 1) + words ≤ length w
  pub left : S (at w (t + words * (2 * n)))
  pub right : S (at w (t + words * (2 * n + 1)))

-- ---- the tree

-- room for a tree with `base` leaves
pub record RowRoom (words : ℕ) (w : List ℕ) (t base : ℕ) : Type 0 where
  pub some : 0 < base
  pub inside : t + 2 * words * base ≤ length w

-- what joining the leaves asks, and what it gives
pub record RowLeaves {A : Type 0} (at : List ℕ → ℕ → A) (words : ℕ) (S : A → Type 0) (w : List ℕ) (t base : ℕ) : Type 0 where
  pub wide : RowRoom words w t base
  pub sound : (x : ℕ) → x < base → S (own (row at words w t) base x)

pub record RowJoined {A : Type 0} (at : List ℕ → ℕ → A) (words : ℕ) (join : A → A → A) (S : A → Type 0) (w w' : List ℕ) (t base : ℕ) : Type 0 where
  pub whole : NodesKept join S (row at words w' t) base 1 0 (own (row at words w t) base)
  pub kept : Changes w w' t (t + 2 * words * base)

-- what changing the leaf p asks, and what it gives
pub record RowWhole {A : Type 0} (at : List ℕ → ℕ → A) (words : ℕ) (join : A → A → A) (S : A → Type 0) (w : List ℕ) (t base p : ℕ) : Type 0 where
  pub wide : RowRoom words w t base
  pub within : p < base
  pub whole : NodesKept join S (row at words w t) base 1 0 (own (row at words w t) base)

pub record RowSets {A : Type 0} (at : List ℕ → ℕ → A) (words : ℕ) (join : A → A → A) (S : A → Type 0) (w w' : List ℕ) (t base p : ℕ) (v : A) : Type 0 where
  pub whole : NodesKept join S (row at words w' t) base 1 0 (changed (own (row at words w t) base) p v)
  pub kept : Changes w w' t (t + 2 * words * base)

-- every number is sound
abbrev pub Any : ℕ → Type 0
Any v = Unit {0}
