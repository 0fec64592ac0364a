-- Numbers stored one after another.
use Prim.Native.Nat.{ℕ, ◌+◌, ◌≤◌, ◌<◌}
use mathlib.Core.List.{List, [], ◌∷◌}
use native.Mathlib.Omega.{arith}
use native.Mathlib.Nat.{add-zero}
use lib.ListN.{length, set}
use Rattle.point_slices.specs.Holds.{HoldsFrom}
use Rattle.point_slices.proofs.Laws.{from_set, from_start}

pub one_put : (l : List ℕ) (at v : ℕ) → at < length l → HoldsFrom (set l at v) l at 1 (v ∷ [])
one_put l at v h = rw add-zero at (from_set (from_start l at) (omega arith) v)

pub record_put : (l : List ℕ) (at a b s d f : ℕ) → at + 5 ≤ length l
    → HoldsFrom (set (set (set (set (set l at a) (at + 1) b) (at + 2) s) (at + 3) d) (at + 4) f) l at 5 (a ∷ b ∷ s ∷ d ∷ f ∷ [])
record_put l at a b s d f h =
    from_set (from_set (from_set (from_set (one_put l at a (omega arith)) (omega arith) b) (omega arith) s) (omega arith) d) (omega arith) f
