-- What the two round trips speak of: numbers that fit their types, a table that names the records of a run, and what each trip gives back.
use Rattle.std.specs.Prelude.{ℕ, suc, ◌+◌, ◌≤◌, ◌<◌, ◌≡◌, length, take, drop, get_or}
use mathlib.Core.List.{List, [], ◌∷◌, map, flat_map}
use Rattle.rules.specs.Answers.{Answer}
use Rattle.rules.specs.Answers.{Accepted}
use Rattle.rules.specs.Lists.{from}
use Rattle.rules.specs.Refusals.{entry}
use Rattle.rules.specs.Calls.{viewed, written}
use Rattle.rules.specs.Wkb.{byte_order, count_of, doubles_of, records_of, LentRun, lent_records, LentChains}

-- every number of a list is below b
unfoldable pub Below : ℕ → List ℕ → Type 0
Below b [] = Unit {0}
Below b (n ∷ l) = (n < b) × Below b l

-- a writing call's numbers fit their types, as those of lent slices do
pub record Fitting (i : LentChains) : Type 0 where
  pub type_fits : i.type < 4294967296
  pub table_fits : (k : ℕ) → get_or i.table k 0 < 4294967296
  pub input_fits : Below 18446744073709551616 i.input
  pub merged_fits : Below 18446744073709551616 i.merged

-- ---- what was written is read

-- the numbers of chain k, and of all chains one after another
abbrev pub numbers_at : LentChains → ℕ → List ℕ
numbers_at i k = viewed i.type i.input i.merged i.table k

abbrev pub all_numbers : LentChains → List ℕ
all_numbers i = flat_map (numbers_at i) (from 0 i.number)

abbrev pub all_counts : LentChains → List ℕ
all_counts i = map (λ k. entry i.table k 4) (from 0 i.number)

-- room for what the chains have
pub record RoomToRead (i : LentChains) (j : LentRun) : Type 0 where
  pub numbers : length (all_numbers i) ≤ length j.coordinates
  pub rows : i.number ≤ length j.counts
  pub type : 1 ≤ length j.type

-- the call is accepted, with the chains' coordinates and counts, and with their type where there is a chain
pub record Returned (i : LentChains) (j : LentRun) (a : Answer) (coordinates' counts' type' : List ℕ) : Type 0 where
  pub answer : a ≡ Accepted i.number
  pub coordinates : coordinates' ≡ written (all_numbers i) j.coordinates
  pub counts : counts' ≡ written (all_counts i) j.counts
  pub type : 0 < i.number → type' ≡ written (i.type ∷ []) j.type

-- ---- what was read is written

-- of two lists of records, as many in one as in the other, each of the second is that of the first where that one has the byte order o
unfoldable pub Kept : ℕ → List (List ℕ) → List (List ℕ) → Type 0
Kept o [] [] = Unit {0}
Kept o [] (s ∷ m) = ⊥
Kept o (r ∷ l) [] = ⊥
Kept o (r ∷ l) (s ∷ m) = (byte_order r ≡ o → s ≡ r) × Kept o l m

-- every record has the byte order o
unfoldable pub Ordered : ℕ → List (List ℕ) → Type 0
Ordered o [] = Unit {0}
Ordered o (r ∷ l) = (byte_order r ≡ o) × Ordered o l

-- the chains from k on are the lines of the records: the same counts, and the same numbers
unfoldable pub Named : LentChains → ℕ → List (List ℕ) → Type 0
Named i k [] = Unit {0}
Named i k (r ∷ l) = (entry i.table k 4 ≡ count_of r) × (numbers_at i k ≡ doubles_of r) × Named i (suc k) l

-- the table that names lines of source 0, each alone: k chains and `first` coordinates stand before. The loop mark is not looked at, and is 0
unfoldable pub lines_table : ℕ → ℕ → List ℕ → List ℕ
lines_table k first [] = []
lines_table k first (c ∷ l) = k ∷ 1 ∷ 0 ∷ first ∷ c ∷ 0 ∷ lines_table (suc k) (first + c) l

-- the call is accepted, with the lengths that were read; each record comes back that was in the order that is written, and the run where all were. Beyond it
-- the room is as before
pub record Rewritten (order : ℕ) (j : LentRun) (a : Answer) (run' run₀ lengths' lengths₀ : List ℕ) : Type 0 where
  pub answer : a ≡ Accepted (length j.run)
  pub sizes : lengths' ≡ written j.lengths lengths₀
  pub records : Kept order (lent_records j) (records_of j.lengths (take (length j.run) run'))
  pub whole : Ordered order (lent_records j) → run' ≡ written j.run run₀
  pub beyond : drop (length j.run) run' ≡ drop (length j.run) run₀
