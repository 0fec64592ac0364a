-- Sets of directions: a set has the directions that it was told, and two sets share a direction exactly if there is one that both have.
use Prim.Native.Nat.{ℕ, ◌/◌, ◌%◌, ◌≤◌}
use mathlib.Core.Path.{◌≡◌, refl, sym, ap, ◌∙◌}
use mathlib.Core.Bool.{Bool, true, false, ◌&&◌, ◌||◌, cond, and-eq-true_iff}
use native.Mathlib.Omega.{arith}
use native.Mathlib.Decide.{ℕ_discrete}
use borrow.Author.Tests.{eq-eqb}
use Rattle.check_marks.specs.Marks.{has, set_of, shared}

pub has_set : (d a b : Bool) → has d (set_of a b) ≡ cond d b a
has_set false false false = refl
has_set false false true = refl
has_set false true false = refl
has_set false true true = refl
has_set true false false = refl
has_set true false true = refl
has_set true true false = refl
has_set true true true = refl

-- a set without directions is 0
pub set_none : (a b : Bool) → (set_of a b ≡ 0 → ⊥) → (d : Bool) × (cond d b a ≡ true)
set_none true b h = (false, refl)
set_none false true h = (true, refl)
set_none false false h = absurd (h refl)

pub set_small : (a b : Bool) → set_of a b ≤ 3
set_small true true = omega arith
set_small true false = omega arith
set_small false true = omega arith
set_small false false = omega arith

-- a set with a direction has one of the two
pub some_way : (s : ℕ) → s ≤ 3 → (s ≡ 0 → ⊥) → (d : Bool) × (has d s ≡ true)
some_way s h z =
    elim (ℕ_discrete (s % 2) 1) [
      | yes q ↦ (false, eq-eqb (s % 2) 1 q)
      | no q ↦ (true, eq-eqb (s / 2) 1 (omega arith))
    ]

pub has_there : (d : Bool) (s : ℕ) → has d s ≡ true → (s ≡ 0 → ⊥)
has_there d s h z = let e : has d 0 ≡ true = ap (has d) (sym z) ∙ h in go d e
  where
    go : (d : Bool) → has d 0 ≡ true → ⊥
    go true e = let z : ◌≡◌ {A = ℕ} 0 1 = cc in omega arith
    go false e = let z : ◌≡◌ {A = ℕ} 0 1 = cc in omega arith

either : (a b : Bool) → (a || b) ≡ true → (c : Bool) × (cond c b a ≡ true)
either true b e = (false, refl)
either false b e = (true, e)

pub shared_way : (a b : ℕ) → shared a b ≡ true → (d : Bool) × (has d a ≡ true) × (has d b ≡ true)
unfolding shared
shared_way a b e = go (either (has false a && has false b) (has true a && has true b) e)
  where
    go : (c : Bool) × (cond c (has true a && has true b) (has false a && has false b) ≡ true) → (d : Bool) × (has d a ≡ true) × (has d b ≡ true)
    go s = which s.0 s.1
      where
        which : (c : Bool) → cond c (has true a && has true b) (has false a && has false b) ≡ true → (d : Bool) × (has d a ≡ true) × (has d b ≡ true)
        which true q = let t = (and-eq-true_iff (has true a) (has true b)).0 q in (true, t.0, t.1)
        which false q = let t = (and-eq-true_iff (has false a) (has false b)).0 q in (false, t.0, t.1)

pub way_shared : (d : Bool) (a b : ℕ) → has d a ≡ true → has d b ≡ true → shared a b ≡ true
unfolding shared
way_shared false a b p q = ap (λ (x : Bool). x || (has true a && has true b)) ((and-eq-true_iff (has false a) (has false b)).1 (p, q))
way_shared true a b p q = ap (λ (x : Bool). (has false a && has false b) || x) ((and-eq-true_iff (has true a) (has true b)).1 (p, q)) ∙ last (has false a && has false b)
  where
    last : (x : Bool) → (x || true) ≡ true
    last true = refl
    last false = refl
