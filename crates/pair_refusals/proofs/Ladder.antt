-- The refusal by lengths is the book's: it looks at nothing else of the two rooms.
use Prim.Native.Nat.{ℕ, ◌*◌}
use mathlib.Core.Path.{◌≡◌, refl}
use mathlib.Core.Bool.{Bool, true, false, not, ◌&&◌, ◌||◌, true≢false}
use mathlib.Core.List.{List}
use lib.Dec.{eqb}
use lib.Ieee.{Float}
use lib.ListN.{length}
use borrow.Author.Tests.{eqb-true}
use Rattle.rules.specs.Refusals.{LentEnds, pair_refusal_of}
use Rattle.build_refusals.proofs.Laws.{Left}
use Rattle.pair_refusals.specs.Ladder.{pair_tests, pair_refusal_by}

pub refusal_by : (alone : Bool) (i : LentEnds)
    → pair_refusal_of alone i ≡ pair_refusal_by alone i.present i.directions i.pieces i.limit (length i.pairs) (length i.workspace)
unfolding pair_refusal_of pair_refusal_by
refusal_by alone i = refl

-- before the first test all are left
pub opened : (alone : Bool) (present : List ℕ) (directions : List Float) (pieces : List ℕ) (limit : Float) (pairs workspace : ℕ)
    → Left (pair_refusal_by alone present directions pieces limit pairs workspace) (pair_tests alone present directions pieces limit pairs workspace)
unfolding pair_refusal_by
opened alone present directions pieces limit pairs workspace = record { is = refl }

-- the second test doesn't hold where both are as long as they should be
pub tables_agree : (a b d : ℕ) → (not (eqb a d) || not (eqb b (d * 2))) ≡ false → (a ≡ d) × (b ≡ d * 2)
tables_agree a b d h = go (eqb a d) (eqb b (d * 2)) refl refl h
  where
    go : (s t : Bool) → eqb a d ≡ s → eqb b (d * 2) ≡ t → (not s || not t) ≡ false → (a ≡ d) × (b ≡ d * 2)
    go true true e f h = (eqb-true a d e, eqb-true b (d * 2) f)
    go true false e f h = absurd (true≢false h)
    go false t e f h = absurd (true≢false h)

-- the last test is asked of the indexed route alone
pub not_asked : (alone wild : Bool) → alone ≡ false → (alone && wild) ≡ false
not_asked alone wild e = rw e

pub asked : (alone wild : Bool) → alone ≡ true → (alone && wild) ≡ wild
asked alone wild e = rw e
