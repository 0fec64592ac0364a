-- The levels of boxes, one above another.
use Prim.Native.Nat.{ℕ, zero, suc, ◌≤◌, ◌<◌}
use mathlib.Core.Path.{◌≡◌, refl, sym}
use mathlib.Core.Bool.{true, false}
use mathlib.Core.List.{List, [], ◌++◌, append-nil}
use native.Mathlib.Omega.{arith}
use borrow.Author.Tests.{le-leb, lt-leb}
use lib.Dec.{leb}
use lib.ListN.{length, length-append}
use Rattle.rules.specs.declared.Box.{Box}
use Rattle.rules.specs.Boxes.{in_pairs, levels}

-- a level of one box is the last
pub levels_top : (f : ℕ) (l : List Box) → length l ≤ 1 → levels f l ≡ l
unfolding levels
levels_top zero l h = refl
levels_top (suc f) l h = rw (le-leb (length l) 1 h) (append-nil l)

pub levels_more : (f : ℕ) (l : List Box) → 1 < length l → levels (suc f) l ≡ l ++ levels f (in_pairs l)
unfolding levels
levels_more f l h = rw (lt-leb (length l) 1 h)

-- a level stands first among the levels from it on
pub levels_long : (f : ℕ) (l : List Box) → length l ≤ length (levels f l)
unfolding levels
levels_long zero l = omega arith
levels_long (suc f) l = omega (arith, length-append l (elim (leb (length l) 1) [ true ↦ [] | false ↦ levels f (in_pairs l) ]))

-- the level itself, and what stands above it
pub higher : ℕ → List Box → List Box
higher zero l = []
higher (suc f) l = elim (leb (length l) 1) [ true ↦ [] | false ↦ levels f (in_pairs l) ]

pub levels_first : (f : ℕ) (l : List Box) → levels f l ≡ l ++ higher f l
unfolding levels higher
levels_first zero l = sym (append-nil l)
levels_first (suc f) l = refl
