-- What the laws of selection speak of: a pair in a list, a list in order, pairs that share an end.
use Rattle.std.specs.Prelude.{ℕ, ◌<◌, ◌≡◌, Bool, true, false, ◌||◌, ◌⊎◌, List, [], ◌∷◌, eqb}
use Rattle.pair_laws.specs.Ranked.{RankedPair, before, busy}

-- q is a pair of ends below d, the lower first, with its key
pub record PairEnds (key : ℕ → ℕ → ℕ) (d : ℕ) (q : RankedPair) : Type 0 where
  pub lower : q.i < q.j
  pub below : q.j < d
  pub keyed : q.key ≡ key q.i q.j

-- p is one of the list's
abbrev pub In : {A : Type 0} → A → List A → Type 0
In p [] = ⊥
In p (q ∷ qs) = (p ≡ q) ⊎ In p qs

module _ {A : Type 0} (before : A → A → Bool) where
  -- no later one is before an earlier one
  abbrev pub Sorted : List A → Type 0
  Sorted [] = Unit {0}
  Sorted (p ∷ ps) = ((q : A) → In q ps → before q p ≡ false) × Sorted ps

  -- each is before each later one
  abbrev pub InOrder : List A → Type 0
  InOrder [] = Unit {0}
  InOrder (p ∷ ps) = ((q : A) → In q ps → before p q ≡ true) × InOrder ps

  module _ (shares : A → A → Bool) where
    -- one of s that is before p shares an end with it
    abbrev pub Blocked : List A → A → Type 0
    Blocked s p = (b : A) × In b s × (before b p ≡ true) × (shares b p ≡ true)

    -- s is settled in l: no two of it share an end, and each of l that is not in it is blocked by one in it
    pub record Settled (l s : List A) : Type 0 where
      pub within : (p : A) → In p s → In p l
      pub apart : (p q : A) → In p s → In q s → shares p q ≡ true → p ≡ q
      pub blocked : (p : A) → In p l → In p s ⊎ Blocked s p

-- p and q share an end
unfoldable pub shares : RankedPair → RankedPair → Bool
shares p q = eqb q.i p.i || eqb q.i p.j || eqb q.j p.i || eqb q.j p.j

-- p is a free pair of l, and no free pair of l is before it
pub record Least (used : ℕ → Bool) (l : List RankedPair) (p : RankedPair) : Type 0 where
  pub member : In p l
  pub free : busy used p ≡ false
  pub first : (q : RankedPair) → In q l → busy used q ≡ false → before q p ≡ false

-- what an owner, an end, has in the heap: a pair that was its best when it was put there
pub record Entry : Type 0 where
  pub owner : ℕ
  pub best : RankedPair

abbrev pub EndOf : ℕ → RankedPair → Type 0
EndOf o p = (o ≡ p.i) ⊎ (o ≡ p.j)

-- each free pair of an active owner is at or after an entry of that owner; `h e` says that e is in the heap
abbrev pub Covers : (ℕ → Bool) → List RankedPair → (ℕ → Bool) → (Entry → Type 0) → Type 0
Covers used l active h =
    (q : RankedPair) (o : ℕ) → In q l → busy used q ≡ false → active o ≡ true → EndOf o q
    → (e : Entry) × h e × (e.owner ≡ o) × (before q e.best ≡ false)

-- each free pair is at or after a free pair with an active end
abbrev pub Enough : (ℕ → Bool) → List RankedPair → (ℕ → Bool) → Type 0
Enough used l active =
    (q : RankedPair) → In q l → busy used q ≡ false
    → (p : RankedPair) × (o : ℕ) × In p l × (busy used p ≡ false) × (before q p ≡ false) × (active o ≡ true) × EndOf o p

-- each free pair (i, j) is at or after one that row i holds; `h i p` says that row i holds p
abbrev pub HeldRows : (ℕ → Bool) → List RankedPair → (ℕ → RankedPair → Type 0) → Type 0
HeldRows used l h = (q : RankedPair) → In q l → busy used q ≡ false → (p : RankedPair) × h q.i p × (before q p ≡ false)
