-- A delivery of chains by its numbers: lines of points of w numbers, and a table of records whose chains are looked at one after another.
use Rattle.std.specs.Prelude.{ℕ, ◌+◌, ◌≤◌, ◌<◌, ◌≡◌, Bool, true, false, ◌||◌, ◌⊎◌, List, leb, ltb, length}
use Rattle.rules.specs.declared.Meeting.{Meeting}
use Rattle.rules.specs.Lists.{count, any_of}
use Rattle.rules.specs.Plane.{points}
use Rattle.rules.specs.Refusals.{entry, no_chain, most_lines}
use Rattle.rules.specs.Check.{Delivered, listed_at, fits}
use Rattle.build_question.specs.Parts.{part_of}
use Rattle.check_lines.specs.Lines.{Below, mark}
use Rattle.check_fits.specs.Fits.{chosen}

-- ---- records

-- record k is no chain, its lines leave the listing, or it names a line that isn't there
unfoldable pub bad_at : ℕ → ℕ → (coordinates merged table listing : List ℕ) → ℕ → Bool
bad_at w n coordinates merged table listing k =
    no_chain w coordinates merged table k || (ltb (length listing) (entry table k 0 + entry table k 1) || any_of (leb n) (listed_at table listing k))

pub record RecordFine (w n : ℕ) (coordinates merged table listing : List ℕ) (k : ℕ) : Type 0 where
  pub stands : no_chain w coordinates merged table k ≡ false
  pub inside : entry table k 0 + entry table k 1 ≤ length listing
  pub below : Below n (listed_at table listing k)

-- chain k as it is delivered
abbrev pub delivered_by : ℕ → (coordinates merged table listing : List ℕ) → ℕ → Delivered
delivered_by w coordinates merged table listing k = record { listed = listed_at table listing k; coordinates = points w (part_of w coordinates merged table k) }

-- ---- chains

-- whether chain k fits
abbrev pub fits_at : Meeting → ℕ → (coordinates counts groups kinds merged table listing : List ℕ) → ℕ → Bool
fits_at m w coordinates counts groups kinds merged table listing k =
    fits m (chosen w coordinates counts groups kinds (listed_at table listing k)) (points w (part_of w coordinates merged table k))

-- r tells whether chain k fits and lists no line again; then its lines have their marks
pub record ChainJudged (m : Meeting) (w : ℕ) (coordinates counts groups kinds merged table listing : List ℕ) (k : ℕ) (seen seen' : List Bool) (r : Bool) : Type 0 where
  pub added : r ≡ true → (y : ℕ) → y < most_lines → mark seen' y ≡ mark seen y + count y (listed_at table listing k)
  pub fitting : r ≡ true → fits_at m w coordinates counts groups kinds merged table listing k ≡ true
  pub wrong : r ≡ false
      → ((y : ℕ) × (y < most_lines) × (1 < mark seen y + count y (listed_at table listing k)))
      ⊎ (fits_at m w coordinates counts groups kinds merged table listing k ≡ false)
