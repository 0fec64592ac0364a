-- The words of a search over a tree of bounds, on whole numbers alone. The children of the node n are 2 * n and 2 * n + 1.
use Rattle.std.specs.Prelude.{ℕ, zero, suc, ◌+◌, ◌*◌, ◌^◌, ◌≤◌, min}

-- a key and an index, which is below 2 ^ 64, as one number: its order is that of the key and then the index
abbrev pub place : ℕ → ℕ → ℕ
place k i = k * 2 ^ 64 + i

-- the least of the leaves h steps below n; w is a leaf's place
unfoldable pub least : (ℕ → ℕ) → ℕ → ℕ → ℕ
least w zero n = w n
least w (suc h) n = min (least w h (2 * n)) (least w h (2 * n + 1))

-- each node's bound, v of it, is at or below the leaves under it
unfoldable pub Bounded : (ℕ → ℕ) → (ℕ → ℕ) → ℕ → ℕ → Type 0
unfolding least
Bounded v w zero n = v n ≤ w n
Bounded v w (suc h) n = (v n ≤ min (least w h (2 * n)) (least w h (2 * n + 1))) × Bounded v w h (2 * n) × Bounded v w h (2 * n + 1)
