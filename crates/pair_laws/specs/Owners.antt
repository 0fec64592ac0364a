-- Owners: the ends whose pairs a route keeps in view. An end that is none is led by two owners of its direction.
-- `There e` says that the end e has a direction, `Alike a e` that a and e have the same.
use Rattle.std.specs.Prelude.{ℕ, ◌<◌, ◌≡◌, Bool, true, false}

module _ (There : ℕ → Type 0) (Alike : ℕ → ℕ → Type 0) (used active : ℕ → Bool) where
  -- a is an owner, still free, below e, and of e's direction
  pub record Stands (e a : ℕ) : Type 0 where
    pub below : a < e
    pub there : There a
    pub free : used a ≡ false
    pub owner : active a ≡ true
    pub alike : Alike a e

  -- each free end that is no owner has two owners of its direction below it
  abbrev pub Led : Type 0
  Led = (e : ℕ) → There e → used e ≡ false → active e ≡ false → (a b : ℕ) × (a < b) × Stands e a × Stands e b

-- no piece number occurs more than twice among the ends below d
abbrev pub AtMostTwice : (ℕ → ℕ) → ℕ → Type 0
AtMostTwice piece d = (x y z : ℕ) → x < y → y < z → z < d → piece x ≡ piece y → piece y ≡ piece z → ⊥
