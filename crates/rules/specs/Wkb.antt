-- 02, WKB in and out, and Heights and measures: lines as records of OGC 06-103r4. A record is bytes: one for the byte order, four for the type, four for the
-- count of coordinates, and eight for each double. All is said over the width of a type, how many doubles a coordinate has.
use Rattle.std.specs.Prelude.{◌+◌, ◌-◌, ◌*◌, ◌/◌, ◌%◌, ◌≡◌, ◌||◌, ◌∷◌, ◌++◌}
use Rattle.rules.specs.Library.{ℕ, zero, suc, Bool, true, false, not, List, [], map, flat_map, reverse, length, take, drop, get_or, eqb, ltb, Answer}
use Rattle.rules.specs.Lists.{total, from}
use Rattle.rules.specs.Refusals.{first_of, short, entry, no_chain}
use Rattle.rules.specs.Types.{width_of, no_type}
use Rattle.rules.specs.Calls.{unless, answer_of, written, viewed}

-- ---- numbers as bytes
-- the number that bytes stand for, the least byte first
unfoldable pub little : List ℕ → ℕ
little [] = 0
little (b ∷ l) = b + 256 * little l

-- byte order 0 (XDR) has the greatest byte first, byte order 1 (NDR) the least
unfoldable pub number_by : ℕ → List ℕ → ℕ
number_by zero l = little (reverse l)
number_by (suc o) l = little l

-- n as k bytes, the least first, and in a byte order
unfoldable pub little_bytes : ℕ → ℕ → List ℕ
little_bytes zero n = []
little_bytes (suc k) n = n % 256 ∷ little_bytes k (n / 256)

unfoldable pub bytes_by : ℕ → ℕ → ℕ → List ℕ
bytes_by zero k n = reverse (little_bytes k n)
bytes_by (suc o) k n = little_bytes k n

-- ---- a record
abbrev pub header_size : ℕ
header_size = 9

-- its length, with so many coordinates of width w
abbrev pub size_of : ℕ → ℕ → ℕ
size_of w count = header_size + count * w * 8

unfoldable pub byte_order : List ℕ → ℕ
byte_order r = get_or r 0 0

unfoldable pub type_of : List ℕ → ℕ
type_of r = number_by (byte_order r) (take 4 (drop 1 r))

unfoldable pub count_of : List ℕ → ℕ
count_of r = number_by (byte_order r) (take 4 (drop 5 r))

-- n doubles, each by its 64 bits
unfoldable pub doubles_by : ℕ → ℕ → List ℕ → List ℕ
doubles_by o zero l = []
doubles_by o (suc n) l = number_by o (take 8 l) ∷ doubles_by o n (drop 8 l)

-- all that stands behind the header
unfoldable pub doubles_of : List ℕ → List ℕ
doubles_of r = doubles_by (byte_order r) ((length r - header_size) / 8) (drop header_size r)

-- a record of a type, written in a byte order
unfoldable pub record_by : ℕ → ℕ → ℕ → List ℕ → List ℕ
record_by order t count doubles = order ∷ (bytes_by order 4 t ++ (bytes_by order 4 count ++ flat_map (bytes_by order 8) doubles))

-- ---- a run of records, with the table of their lengths
unfoldable pub records_of : List ℕ → List ℕ → List (List ℕ)
records_of [] run = []
records_of (n ∷ l) run = take n run ∷ records_of l (drop n run)

unfoldable pub coordinates_of : List (List ℕ) → List ℕ
coordinates_of [] = []
coordinates_of (r ∷ l) = doubles_of r ++ coordinates_of l

unfoldable pub counts_of : List (List ℕ) → List ℕ
counts_of [] = []
counts_of (r ∷ l) = count_of r ∷ counts_of l

-- the type of a run is its first record's; it is 2 where there is none, or where that one's header doesn't fit
unfoldable pub run_type : List (List ℕ) → ℕ
run_type [] = 2
run_type (r ∷ l) = elim (ltb (length r) header_size) [ true ↦ 2 | false ↦ type_of r ]

-- ---- refusals of reading
-- of one record in a run of type t
unfoldable pub record_refusal : ℕ → List ℕ → ℕ
record_refusal t r =
    first_of
    ((13, ltb (length r) header_size)
    ∷ (11, ltb 1 (byte_order r))
    ∷ (12, no_type (type_of r))
    ∷ (25, not (eqb (type_of r) t))
    ∷ (13, not (eqb (length r) (size_of (width_of (type_of r)) (count_of r))))
    ∷ [])

-- the first bad record decides
unfoldable pub records_refusal : ℕ → List (List ℕ) → ℕ
records_refusal t [] = 0
records_refusal t (r ∷ l) = elim (eqb (record_refusal t r) 0) [ true ↦ records_refusal t l | false ↦ record_refusal t r ]

-- before any record, the lengths add up to the run's; a sum is a whole number, and none is too great
unfoldable pub run_refusal : List ℕ → List ℕ → ℕ
run_refusal run lengths =
    elim (eqb (total lengths) (length run)) [ true ↦ records_refusal (run_type (records_of lengths run)) (records_of lengths run) | false ↦ 13 ]

-- what a reading call lends, as it stands at entry; `type` is the room for the run's type
pub record LentRun : Type 0 where
  pub run : List ℕ
  pub lengths : List ℕ
  pub coordinates : List ℕ
  pub counts : List ℕ
  pub type : List ℕ

abbrev pub run_as : (run lengths coordinates counts type : List ℕ) → LentRun
run_as run lengths coordinates counts type = record { run = run; lengths = lengths; coordinates = coordinates; counts = counts; type = type }

unfoldable pub lent_records : LentRun → List (List ℕ)
lent_records i = records_of i.lengths i.run

-- the run's, and after all its records the rooms'
unfoldable pub read_refusal_of : LentRun → ℕ
read_refusal_of i =
    let refused = run_refusal i.run i.lengths in
    let rows = short i.counts (length i.lengths) || short i.type 1 in
    first_of ((refused, not (eqb refused 0)) ∷ (14, short i.coordinates (length (coordinates_of (lent_records i))) || rows) ∷ [])

-- ---- what reading determines: the number of records, their coordinates and counts, and their type
pub record Read (i : LentRun) (r : Answer) (coordinates' counts' type' : List ℕ) : Type 0 where
  pub answer : r ≡ answer_of (read_refusal_of i) (length i.lengths)
  pub coordinates : coordinates' ≡ unless (read_refusal_of i) i.coordinates (written (coordinates_of (lent_records i)) i.coordinates)
  pub counts : counts' ≡ unless (read_refusal_of i) i.counts (written (counts_of (lent_records i)) i.counts)
  pub type : type' ≡ unless (read_refusal_of i) i.type (written (run_type (lent_records i) ∷ []) i.type)

-- ---- writing
-- what a writing call lends, as it stands at entry: the first `number` chains of a table, for records of a type in a byte order
pub record LentChains : Type 0 where
  pub type : ℕ
  pub input : List ℕ
  pub merged : List ℕ
  pub table : List ℕ
  pub number : ℕ
  pub order : ℕ
  pub run : List ℕ
  pub lengths : List ℕ

-- chain k as a record; its doubles are the view's
unfoldable pub chain_record : LentChains → ℕ → List ℕ
chain_record i k = record_by i.order i.type (entry i.table k 4) (viewed i.type i.input i.merged i.table k)

unfoldable pub run_of : LentChains → List ℕ
run_of i = flat_map (chain_record i) (from 0 i.number)

unfoldable pub lengths_of : LentChains → List ℕ
lengths_of i = map (λ k. length (chain_record i k)) (from 0 i.number)

-- one of n records of the table from k on is no chain
unfoldable pub any_missing : ℕ → List ℕ → List ℕ → List ℕ → ℕ → ℕ → Bool
any_missing w input merged table k zero = false
any_missing w input merged table k (suc n) = elim (no_chain w input merged table k) [ true ↦ true | false ↦ any_missing w input merged table (suc k) n ]

-- the type, the byte order, every record of the table, and then the rooms
unfoldable pub write_refusal_of : LentChains → ℕ
write_refusal_of i =
    first_of
    ((12, no_type i.type)
    ∷ (16, ltb 1 i.order)
    ∷ (10, any_missing (width_of i.type) i.input i.merged i.table 0 i.number)
    ∷ (14, short i.run (length (run_of i)) || short i.lengths i.number)
    ∷ [])

-- ---- what writing determines: the number of bytes, the records one behind another, and their lengths
pub record Wrote (i : LentChains) (r : Answer) (run' lengths' : List ℕ) : Type 0 where
  pub answer : r ≡ answer_of (write_refusal_of i) (length (run_of i))
  pub run : run' ≡ unless (write_refusal_of i) i.run (written (run_of i) i.run)
  pub lengths : lengths' ≡ unless (write_refusal_of i) i.lengths (written (lengths_of i) i.lengths)

-- what a call lends, by its parts
abbrev pub chains_as : ℕ → (input merged table : List ℕ) → (number order : ℕ) → (run lengths : List ℕ) → LentChains
chains_as t input merged table number order run lengths =
    record { type = t; input = input; merged = merged; table = table; number = number; order = order; run = run; lengths = lengths }
