-- Which ends are owners, why they are enough, and how many there are: each free end that is none comes, in its group, after two owners, and no group has a third.
-- `used` says which ends are taken, `gone` which of these have handed on their slots.
use Rattle.std.specs.Prelude.{ℕ, zero, suc, ◌+◌, ◌≤◌, ◌<◌, ◌≡◌, Bool, true, false, not, ◌&&◌, ◌||◌, List, eqb, ltb}
use Rattle.rules.specs.Lists.{one}
use Rattle.rules.specs.Selecting.{End}
use Rattle.pair_laws.proofs.Owners.{There}
use Rattle.pair_owners.specs.Tables.{owners}

-- how many of the numbers below n pass
unfoldable pub tally : (ℕ → Bool) → ℕ → ℕ
tally f zero = 0
tally f (suc n) = one (f n) + tally f n

-- the ends of gone, and x
abbrev pub without : (ℕ → Bool) → ℕ → ℕ → Bool
without gone x e = eqb e x || gone e

-- at position p stands an owner of group g that has not handed on its slot
abbrev pub leads : ℕ → (ℕ → ℕ) → (ℕ → ℕ) → (ℕ → ℕ) → (ℕ → Bool) → ℕ → ℕ → Bool
leads d order group slot gone g p = eqb (group (order p)) g && (ltb (slot (order p)) d && not (gone (order p)))

-- the end e is an owner that has not handed on its slot
pub record KeepsSlot (d : ℕ) (slot : ℕ → ℕ) (gone : ℕ → Bool) (e : ℕ) : Type 0 where
  pub inside : e < d
  pub owner : slot e < d
  pub kept : gone e ≡ false

pub record Owners (l : List End) (d : ℕ) (order pos group cursor slot own : ℕ → ℕ) (used gone : ℕ → Bool) : Type 0 where
  -- an end that has handed on its slot is taken
  pub past : (e : ℕ) → gone e ≡ true → used e ≡ true
  -- an owner has its slot to itself
  pub holds : (e : ℕ) → e < d → slot e < d → gone e ≡ false → own (slot e) ≡ e
  -- an owner comes before the cursor of its group
  pub ahead : (e : ℕ) → e < d → slot e < d → pos e < cursor (group e)
  -- a free end that is no owner comes after the cursor of its group, before which two owners stand
  pub after : (e : ℕ) → There l e → used e ≡ false → (slot e < d → ⊥) → cursor (group e) ≤ pos e
  pub led : (e : ℕ) → There l e → used e ≡ false → (slot e < d → ⊥) → owners ≤ tally (leads d order group slot gone (group e)) (cursor (group e))
  -- no group has more
  pub most : (g : ℕ) → tally (leads d order group slot gone g) d ≤ owners
