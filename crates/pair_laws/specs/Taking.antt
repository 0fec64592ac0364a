-- Taking pairs one after another, as a route does it over lists: the ends taken are marked, and the pairs are listed at the beginning of an output.
-- A pair whose j is 0 stands for none, since no end is below end 0.
use Rattle.std.specs.Prelude.{ℕ, ◌+◌, ◌<◌, ◌≡◌, Bool, true, false, cond, not, ◌&&◌, ◌||◌, List, [], ◌∷◌, ◌++◌, length, get_or, drop, replicate, ltb, eqb}
use Rattle.pair_laws.specs.Ranked.{RankedPair, Node, qualifies, candidates, busy, before}
use Rattle.pair_laws.specs.Sets.{In, Least}

-- the ends that are marked
abbrev pub used_of : List ℕ → ℕ → Bool
used_of marks e = not (eqb (get_or marks e 0) 0)

abbrev pub pair_at : Node → ℕ → ℕ → RankedPair
pair_at n i j = record { key = n.key i j; i = i; j = j }

-- the better of p and the pair (i, j), if that is free and qualifies, where (i, j) comes after p but for its key
unfoldable pub better : Node → ℕ → (ℕ → Bool) → ℕ → ℕ → RankedPair → RankedPair
unfolding busy qualifies
better n limit used i j p =
    cond (not (busy used (pair_at n i j)) && qualifies n limit (pair_at n i j) && (eqb p.j 0 || ltb (n.key i j) p.key)) (pair_at n i j) p

-- p is the least free candidate, or there is none
pub record IsLeast (n : Node) (limit : ℕ) (used : ℕ → Bool) (p : RankedPair) : Type 0 where
  pub nothing : p.j ≡ 0 → (q : RankedPair) → In q (candidates n limit) → busy used q ≡ true
  pub something : 0 < p.j → Least used (candidates n limit) p

-- p is the first of the free candidates (i, j) of row i, or there is none
pub record IsFirst (n : Node) (limit : ℕ) (used : ℕ → Bool) (i : ℕ) (p : RankedPair) : Type 0 where
  pub nothing : p.j ≡ 0 → (q : RankedPair) → In q (candidates n limit) → busy used q ≡ false → q.i ≡ i → ⊥
  pub member : 0 < p.j → In p (candidates n limit)
  pub free : 0 < p.j → busy used p ≡ false
  pub here : 0 < p.j → p.i ≡ i
  pub first : 0 < p.j → (q : RankedPair) → In q (candidates n limit) → busy used q ≡ false → q.i ≡ i → before q p ≡ false

-- two numbers per pair, in order
unfoldable pub listed : List RankedPair → List ℕ
listed [] = []
listed (p ∷ ps) = p.i ∷ p.j ∷ listed ps

-- the pairs are listed at the beginning of the output, whose rest is as before; r is how many; the marks are 0
pub record PairsTaken (pairs : List RankedPair) (out : List ℕ) (d r : ℕ) (out' used' : List ℕ) : Type 0 where
  pub count : r ≡ length pairs
  pub written : out' ≡ listed pairs ++ drop (r + r) out
  pub cleared : used' ≡ replicate d 0
