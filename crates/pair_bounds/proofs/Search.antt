-- A search that passes over a node whose bound is at or above the best so far finds the least of the best and of all the leaves: what it
-- passes over is not below the best. And a place is in order as its key and then its index.
use mathlib.Core.Path.{◌≡◌, refl}
use Prim.Native.Nat.{ℕ, zero, suc, ◌+◌, ◌*◌, ◌-◌, ◌^◌, ◌≤◌, ◌<◌, min}
use native.Mathlib.Nat.{lt_irrefl}
use native.Mathlib.Omega.{arith}
use Rattle.pair_bounds.specs.Search.{place, least, Bounded}

-- ---- places

pub place_same : (k i l j : ℕ) → i < 2 ^ 64 → j < 2 ^ 64 → place k i ≡ place l j → (k ≡ l) × (i ≡ j)
place_same k i l j p q e = (omega arith, omega arith)

-- ---- the tree

one_less : (h : ℕ) → suc h - 1 ≡ h
one_less h = omega arith

pub at_leaf : (w : ℕ → ℕ) (h n : ℕ) → h ≡ 0 → least w h n ≡ w n
unfolding least
at_leaf w zero n e = refl
at_leaf w (suc h) n e = absurd (none e)
  where
    none : suc h ≡ 0 → ⊥
    none e = omega arith

pub at_node : (w : ℕ → ℕ) (h n : ℕ) → 0 < h → least w h n ≡ min (least w (h - 1) (2 * n)) (least w (h - 1) (2 * n + 1))
unfolding least
at_node w zero n p = absurd (lt_irrefl 0 p)
at_node w (suc h) n p = rw (one_less h)

module _ (v w : ℕ → ℕ) where
  pub bounded : (h n : ℕ) → Bounded v w h n → v n ≤ least w h n
  unfolding Bounded
  bounded zero n H = H
  bounded (suc h) n H = H.0

  -- to pass over a node changes nothing
  pub passed : (h n b : ℕ) → Bounded v w h n → b ≤ v n → b ≡ min b (least w h n)
  passed h n b H l = let i = bounded h n H in omega arith
