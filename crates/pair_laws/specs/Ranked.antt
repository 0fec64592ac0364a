-- The book's selection with each measure replaced by its key, a whole number that ranks it: this is what the routes compare.
-- The qualifying pairs in order of key, then i, then j; a pair is taken if neither end is taken.
use Rattle.std.specs.Prelude.{ℕ, zero, suc, Bool, true, false, ◌&&◌, ◌||◌, ltb, leb, eqb}
use mathlib.Core.List.{List, [], ◌∷◌, ◌++◌}
use Rattle.rules.specs.Lists.{keep}

-- a pair of ends, i below j, with its key
pub record RankedPair : Type 0 where
  pub key : ℕ
  pub i : ℕ
  pub j : ℕ

-- d ends; which two may be paired at all (different pieces, both directions present); the key of two, for a NaN one above every limit's
pub record Node : Type 0 where
  pub d : ℕ
  pub may : ℕ → ℕ → Bool
  pub key : ℕ → ℕ → ℕ

-- the pairs (i, j) with i below n
unfoldable pub column : (ℕ → ℕ → ℕ) → ℕ → ℕ → List RankedPair
column key j zero = []
column key j (suc n) = record { key = key n j; i = n; j = j } ∷ column key j n

-- the pairs (i, j) with i below j and j below n
unfoldable pub pairs : (ℕ → ℕ → ℕ) → ℕ → List RankedPair
pairs key zero = []
pairs key (suc n) = column key n n ++ pairs key n

-- p may be paired, and its key is at or below the limit
unfoldable pub qualifies : Node → ℕ → RankedPair → Bool
qualifies n limit p = n.may p.i p.j && leb p.key limit

unfoldable pub candidates : Node → ℕ → List RankedPair
candidates n limit = keep (qualifies n limit) (pairs n.key n.d)

-- the order: by key, then i, then j
unfoldable pub before : RankedPair → RankedPair → Bool
before p q =
    ltb p.key q.key
    || eqb p.key q.key && (ltb p.i q.i || eqb p.i q.i && ltb p.j q.j)

-- in an order, each after those that are not after it
module _ {A : Type 0} (first : A → A → Bool) where
  unfoldable pub insert : A → List A → List A
  insert p [] = p ∷ []
  insert p (q ∷ qs) = elim (first p q) [ true ↦ p ∷ q ∷ qs | false ↦ q ∷ insert p qs ]

  unfoldable pub sort : List A → List A
  unfolding insert
  sort [] = []
  sort (p ∷ ps) = insert p (sort ps)

-- the ends taken once p is taken
unfoldable pub mark : RankedPair → (ℕ → Bool) → ℕ → Bool
mark p used e = eqb e p.i || eqb e p.j || used e

unfoldable pub busy : (ℕ → Bool) → RankedPair → Bool
busy used p = used p.i || used p.j

-- from left to right: a pair with a taken end is skipped, any other is taken
unfoldable pub greedy : (ℕ → Bool) → List RankedPair → List RankedPair
greedy used [] = []
greedy used (p ∷ ps) = elim (busy used p) [ true ↦ greedy used ps | false ↦ p ∷ greedy (mark p used) ps ]

unfoldable pub none : ℕ → Bool
none e = false

-- what is selected where some ends are taken already
unfoldable pub select_from : Node → ℕ → (ℕ → Bool) → List RankedPair
select_from n limit used = greedy used (sort before (candidates n limit))

unfoldable pub select : Node → ℕ → List RankedPair
select n limit = select_from n limit none
