-- What storing a run asks for, and what it leaves.
use Rattle.std.specs.Prelude.{ℕ, ◌+◌, ◌-◌, ◌/◌, ◌≤◌, ◌≡◌, List, [], ◌∷◌, length}
use Rattle.rules.specs.Lists.{total}
use Rattle.rules.specs.Calls.{written}
use Rattle.point_slices.specs.Holds.{HoldsFrom}
use Rattle.rules.specs.Wkb.{doubles_of, records_of, coordinates_of, counts_of}

-- the doubles of a record stand from `at` up to r
pub record RecordStored (bytes coordinates' coordinates : List ℕ) (at r : ℕ) : Type 0 where
  pub end : r ≡ at + (length bytes - 9) / 8
  pub holds : HoldsFrom coordinates' coordinates at ((length bytes - 9) / 8) (doubles_of bytes)

-- every record has its header
unfoldable pub Headed : List (List ℕ) → Type 0
Headed [] = Unit {0}
Headed (r ∷ l) = (9 ≤ length r) × Headed l

pub record Storable (run lengths coordinates counts : List ℕ) : Type 0 where
  pub adds : total lengths ≡ length run
  pub headed : Headed (records_of lengths run)
  pub room : length (coordinates_of (records_of lengths run)) ≤ length coordinates
  pub rows : length lengths ≤ length counts

pub record RunStored (run lengths coordinates' coordinates counts' counts : List ℕ) : Type 0 where
  pub numbers : coordinates' ≡ written (coordinates_of (records_of lengths run)) coordinates
  pub tally : counts' ≡ written (counts_of (records_of lengths run)) counts
