-- How a chain is passed, line by line: where a line's points, laid with repeats dropped, stand among the chain's, and which place a line leads to from which.
-- A place is how many of the chain's points stand before it. Lines are given by their points.
use Rattle.std.specs.Prelude.{ℕ, zero, suc, ◌+◌, ◌≡◌, ◌⊎◌, Bool, true, false, not, ◌&&◌, cond, List, [], ◌∷◌, reverse, eqb, ltb, length, drop, get_or}
use Rattle.std.proofs.Math.Option.{none}
use Rattle.rules.specs.declared.Meeting.{Meeting}
use Rattle.rules.specs.Plane.{Point, point, equal}
use Rattle.rules.specs.Chaining.{lay}
use Rattle.rules.specs.Check.{meet}

-- how many of the first elements of two lists pass a test, one by one
unfoldable pub common : {A B : Type 0} → (A → B → Bool) → List A → List B → ℕ
common t [] r = 0
common t (a ∷ l) [] = 0
common t (a ∷ l) (b ∷ r) = elim (t a b) [ true ↦ suc (common t l r) | false ↦ 0 ]

-- a line's points in a direction, those laid, and how many they are in either
unfoldable pub run : Bool → List Point → List Point
run turned l = cond turned (reverse l) l

unfoldable pub laid_run : Bool → List Point → List Point
unfolding run
laid_run turned l = lay none (run turned l)

unfoldable pub size_of : List Point → ℕ
size_of l = length (lay none l)

-- how many of a line's laid points stand at a place, and that all do
unfoldable pub standing : List Point → Bool → List Point → ℕ → ℕ
unfolding laid_run common
standing chain e l i = common equal (drop i chain) (laid_run e l)

unfoldable pub fit_at : List Point → Bool → List Point → ℕ → Bool
unfolding standing
fit_at chain e l i = eqb (standing chain e l i) (length (laid_run e l))

-- the chain's point at a place behind the first is another than the one before
unfoldable pub fresh_at : List Point → ℕ → Bool
fresh_at chain zero = false
fresh_at chain (suc k) = ltb (suc k) (length chain) && not (equal (get_or chain k (point 0 0)) (get_or chain (suc k) (point 0 0)))

-- the line p in the direction d meets the line l in the direction e
unfoldable pub joint_at : Meeting → List Point → Bool → List Point → Bool → Bool
unfolding run
joint_at m p d l e = meet m (get_or (run (not d) p) 0 (point 0 0)) (get_or (run e l) 0 (point 0 0))

module _ (m : Meeting) (chain : List Point) where
  -- From the place k behind the line p in the direction d the line l leads in the direction e to the place k'. It stands at k, if its first point doesn't
  -- repeat the chain's before it, or else at the place before.
  pub record LineLeads (p l : List Point) (d e : Bool) (k k' : ℕ) : Type 0 where
    pub place : ℕ
    pub joint : joint_at m p d l e ≡ true
    pub stands : fit_at chain e l place ≡ true
    pub begins : (k ≡ suc place) ⊎ ((k ≡ place) × (fresh_at chain place ≡ true))
    pub ends : k' ≡ place + size_of l

  -- from there lines lead on to the end of the chain
  unfoldable pub Way : List Point → Bool → ℕ → List (List Point) → Type 0
  Way p d k [] = k ≡ length chain
  Way p d k (l ∷ ls) = (e : Bool) × (k' : ℕ) × LineLeads p l d e k k' × Way l e k' ls

  -- the first line stands at the beginning of the chain in a direction, and lines lead on from behind it
  pub record Begun (l : List Point) (ls : List (List Point)) : Type 0 where
    pub turned : Bool
    pub stands : fit_at chain turned l 0 ≡ true
    pub leads : Way l turned (size_of l) ls
