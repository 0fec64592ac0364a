-- Lines noted piece by piece in a table of marks: 0 where a line wasn't met, 1 where it is a member of the piece at hand and not yet in its listing, 2 where
-- it is in both. `seen'` is the table at return, and `seen` what it was. A test that fails says that what it asks for can't be.
use Rattle.std.specs.Prelude.{ℕ, ◌+◌, ◌≤◌, ◌<◌, ◌≡◌, Bool, true, false, ◌&&◌, List, eqb, ltb, length, get_or, take}
use Rattle.rules.specs.Lists.{count, total}
use Rattle.rules.specs.Refusals.{most_lines}
use Rattle.build_lines.proofs.Passing.{plain_at}

-- each line's first coordinate
abbrev pub Placed : List ℕ → List ℕ → Type 0
Placed places counts = (y : ℕ) → y < length counts → get_or places y 0 ≡ total (take y counts)

-- a number that is a plain line's without a mark
abbrev pub fresh : List ℕ → List ℕ → List ℕ → ℕ → Bool
fresh seen counts kinds y = ltb y (length counts) && (eqb (get_or seen y 0) 0 && plain_at counts kinds y)

-- the tables of a call's lines
pub record PlacesTabled (counts groups kinds : List ℕ) : Type 0 where
  pub few : length counts ≤ most_lines
  pub groups_long : length groups ≡ length counts
  pub kinds_long : length kinds ≡ length counts

-- ---- members

-- each of `lines` is plain and of a group, none has a mark or stands twice, and their marks in the piece are at most 1
pub record Fit (seen counts groups kinds : List ℕ) (group : ℕ) (lines marks : List ℕ) : Type 0 where
  pub low : (y : ℕ) → 0 < count y lines → y < length counts
  pub plain : (y : ℕ) → 0 < count y lines → plain_at counts kinds y ≡ true
  pub once : (y : ℕ) → 0 < count y lines → get_or seen y 0 + count y lines ≤ 1
  pub grouped : (y : ℕ) → 0 < count y lines → get_or groups y 0 ≡ group
  pub drawn : (i : ℕ) → i < length marks → get_or marks i 0 ≤ 1

-- each of `lines` has 1 more
pub record Risen (seen' seen lines : List ℕ) : Type 0 where
  pub long : length seen' ≡ most_lines
  pub counted : (y : ℕ) → y < most_lines → get_or seen' y 0 ≡ get_or seen y 0 + count y lines

pub record MembersNoted (seen' seen counts groups kinds : List ℕ) (group : ℕ) (lines marks : List ℕ) (r : Bool) : Type 0 where
  pub fit : r ≡ true → Fit seen counts groups kinds group lines marks
  pub risen : r ≡ true → Risen seen' seen lines
  pub unfit : r ≡ false → Fit seen counts groups kinds group lines marks → ⊥

-- ---- the listing

-- each of `listing` has the mark 1, and none stands twice
pub record Awaited (seen listing : List ℕ) : Type 0 where
  pub low : (y : ℕ) → 0 < count y listing → y < most_lines
  pub half : (y : ℕ) → 0 < count y listing → get_or seen y 0 ≡ 1
  pub once : (y : ℕ) → count y listing ≤ 1

pub record ListingNoted (seen' seen listing : List ℕ) (r : Bool) : Type 0 where
  pub awaited : r ≡ true → Awaited seen listing
  pub risen : r ≡ true → Risen seen' seen listing
  pub foreign : r ≡ false → Awaited seen listing → ⊥

-- ---- all lines

-- r tells whether each plain line has a mark
pub record AllNoted (seen counts kinds : List ℕ) (r : Bool) : Type 0 where
  pub noted : r ≡ true → (y : ℕ) → y < length counts → plain_at counts kinds y ≡ true → 0 < get_or seen y 0
  pub missing : r ≡ false → (y : ℕ) × (y < length counts) × (plain_at counts kinds y ≡ true) × (get_or seen y 0 ≡ 0)
