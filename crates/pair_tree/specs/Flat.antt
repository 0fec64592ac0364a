-- A tree kept in a row of nodes, node n above 2 n and 2 n + 1, its leaves from `base` on: each inner node is the join of its children.
use Rattle.std.specs.Prelude.{ℕ, ◌+◌, ◌*◌, ◌≤◌, ◌<◌, ◌≡◌, cond, eqb}

-- the row after a store at n
pub record Stored {A : Type 0} (N N' : ℕ → A) (n : ℕ) (v : A) : Type 0 where
  pub same : N' n ≡ v
  pub other : (m : ℕ) → (m ≡ n → ⊥) → N' m ≡ N m

-- what stands at e replaced
abbrev pub changed : {A : Type 0} → (ℕ → A) → ℕ → A → ℕ → A
changed l e v x = cond (eqb x e) v (l x)

-- the leaves are those of `l`; each inner node from `low` on, but `skip`, is the join of its children; each node from `low` on is sound
pub record NodesKept {A : Type 0} (join : A → A → A) (Sound : A → Type 0) (N : ℕ → A) (base low skip : ℕ) (l : ℕ → A) : Type 0 where
  pub leaves : (e : ℕ) → e < base → N (base + e) ≡ l e
  pub inner : (n : ℕ) → low ≤ n → n < base → (n ≡ skip → ⊥) → N n ≡ join (N (2 * n)) (N (2 * n + 1))
  pub sound : (n : ℕ) → low ≤ n → n < 2 * base → Sound (N n)

-- the leaves that are there
abbrev pub own : {A : Type 0} → (ℕ → A) → ℕ → ℕ → A
own N base x = N (base + x)
