-- The order of the ends as the seats of an index: any permutation will do, the leaves beyond the d ends stay empty.
use Prim.Native.Nat.{ℕ, ◌≤◌, ◌<◌}
use mathlib.Core.Path.{◌≡◌, ◌∙◌, ap}
use mathlib.Core.Bool.{cond}
use mathlib.Core.Logic.{⊎_elim}
use native.Mathlib.Omega.{arith}
use lib.Dec.{ltb}
use borrow.Author.Tests.{lt-ltb, le-ltb}
use Rattle.pair_tree.proofs.Flat.{below_or}
use Rattle.pair_index.specs.Index.{LeavesPlaced}
use Rattle.pair_owners.specs.Tables.{Ordered}

-- the end at the leaf p of an index; d where there is none
abbrev pub seated : (ℕ → ℕ) → ℕ → ℕ → ℕ
seated order d p = cond (ltb p d) (order p) d

pub seated_in : (order : ℕ → ℕ) (d p : ℕ) → p < d → seated order d p ≡ order p
seated_in order d p h = rw (lt-ltb p d h)

pub seated_out : (order : ℕ → ℕ) (d p : ℕ) → d ≤ p → seated order d p ≡ d
seated_out order d p h = rw (le-ltb p d h)

pub placed : {order pos : ℕ → ℕ} {d : ℕ} (base : ℕ) → d ≤ base → Ordered order pos d → LeavesPlaced (seated order d) pos d base
placed {order} {pos} {d} base few z =
    record {
      seat = λ e h. seated_in order d (pos e) (z.pos_in e h) ∙ z.seat e h;
      within = λ e h. omega (arith, z.pos_in e h);
      back =
          λ p h k. ⊎_elim
          (λ (c : p < d). ap pos (seated_in order d p c) ∙ z.back p c)
          (λ (c : d ≤ p). absurd (omega (arith, k, seated_out order d p c)))
          (below_or p d);
    }
