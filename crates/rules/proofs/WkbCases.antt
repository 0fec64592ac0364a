-- Small records, computed on the book: both byte orders, each refusal, what is read and what is written.
use Rattle.std.specs.Prelude.{◌*◌, ◌≡◌, ◌∷◌, ◌++◌}
use mathlib.Core.Path.{refl}
use mathlib.Core.List.{flat_map}
use Rattle.rules.specs.Library.{ℕ, List, [], replicate}
use Rattle.rules.specs.Lists.{total, from}
use Rattle.rules.specs.Refusals.{first_of, source_of, no_chain, chain_refusal_of}
use Rattle.rules.specs.Types.{width_of}
use Rattle.rules.specs.Calls.{unless, viewed}
use Rattle.rules.specs.Wkb.{little, number_by, little_bytes, bytes_by, record_by, byte_order, type_of, count_of, doubles_by, doubles_of, records_of, coordinates_of, counts_of, run_type, record_refusal, records_refusal, run_refusal, LentRun, lent_records, read_refusal_of, LentChains, chain_record, run_of, lengths_of, any_missing, write_refusal_of}

-- everything that is run through
unfoldable reading : Unit {0}
unfolding little number_by width_of byte_order type_of count_of doubles_by doubles_of records_of coordinates_of counts_of run_type record_refusal records_refusal run_refusal lent_records read_refusal_of first_of total
reading = tt

-- the bits of 1.0, and of a NaN that keeps its payload
abbrev one : ℕ
one = 4607182418800017408

abbrev one_little : List ℕ
one_little = 0 ∷ 0 ∷ 0 ∷ 0 ∷ 0 ∷ 0 ∷ 240 ∷ 63 ∷ []

abbrev one_big : List ℕ
one_big = 63 ∷ 240 ∷ 0 ∷ 0 ∷ 0 ∷ 0 ∷ 0 ∷ 0 ∷ []

abbrev odd_big : List ℕ
odd_big = 127 ∷ 240 ∷ 0 ∷ 0 ∷ 0 ∷ 0 ∷ 0 ∷ 7 ∷ []

pub numbers_read : (number_by 1 one_little ≡ one) × (number_by 0 one_big ≡ one) × (number_by 0 odd_big ≡ 9218868437227405319)
unfolding reading
numbers_read = (refl, refl, refl)

-- a line of one coordinate 1,1 in little order, the same in big order, a line of none in big order, and a ZM line of none
abbrev first : List ℕ
first = 1 ∷ 2 ∷ 0 ∷ 0 ∷ 0 ∷ 1 ∷ 0 ∷ 0 ∷ 0 ∷ (one_little ++ one_little)

abbrev turned : List ℕ
turned = 0 ∷ 0 ∷ 0 ∷ 0 ∷ 2 ∷ 0 ∷ 0 ∷ 0 ∷ 1 ∷ (one_big ++ one_big)

abbrev second : List ℕ
second = 0 ∷ 0 ∷ 0 ∷ 0 ∷ 2 ∷ 0 ∷ 0 ∷ 0 ∷ 0 ∷ []

abbrev third : List ℕ
third = 0 ∷ 0 ∷ 0 ∷ 11 ∷ 186 ∷ 0 ∷ 0 ∷ 0 ∷ 0 ∷ []

-- room for c coordinates and n counts
abbrev lent : List ℕ → List ℕ → ℕ → ℕ → LentRun
lent run lengths c n = record { run = run; lengths = lengths; coordinates = replicate (c * 2) 7; counts = replicate n 7; type = 7 ∷ [] }

pub runs_read : (read_refusal_of (lent (first ++ (second ++ turned)) (25 ∷ 9 ∷ 25 ∷ []) 2 3) ≡ 0)
    × (coordinates_of (lent_records (lent (first ++ (second ++ turned)) (25 ∷ 9 ∷ 25 ∷ []) 2 3)) ≡ replicate 4 one)
    × (counts_of (lent_records (lent (first ++ (second ++ turned)) (25 ∷ 9 ∷ 25 ∷ []) 2 3)) ≡ 1 ∷ 0 ∷ 1 ∷ [])
unfolding reading
runs_read = (refl, refl, refl)

-- no records: accepted, of type 2
pub none_read : (read_refusal_of (lent [] [] 0 0) ≡ 0) × (run_type (lent_records (lent [] [] 0 0)) ≡ 2)
unfolding reading
none_read = (refl, refl)

-- a header of nine bytes: order, type and count in big order
abbrev header : ℕ → ℕ → ℕ → List ℕ
header o t c = o ∷ 0 ∷ 0 ∷ 0 ∷ t ∷ 0 ∷ 0 ∷ 0 ∷ c ∷ []

pub read_refusals :
    -- the lengths don't add up to the run, or their sum is as long only where it wraps at 2 ^ 64; no record is looked at
    (read_refusal_of (lent second (8 ∷ []) 0 1) ≡ 13)
    × (read_refusal_of (lent (header 2 3 1) (18446744073709551615 ∷ 10 ∷ []) 0 0) ≡ 13)
    -- the header doesn't fit; an order of 2; type 3; the count disagrees
    × (read_refusal_of (lent (9 ∷ []) (1 ∷ []) 0 1) ≡ 13)
    × (read_refusal_of (lent (header 2 3 1) (9 ∷ []) 0 0) ≡ 11)
    × (read_refusal_of (lent (header 0 3 1) (9 ∷ []) 0 0) ≡ 12)
    × (read_refusal_of (lent (header 0 2 1) (9 ∷ []) 0 0) ≡ 13)
    -- the first bad record decides, and the rooms are judged after all
    × (read_refusal_of (lent (header 0 3 0 ++ header 2 2 0) (9 ∷ 9 ∷ []) 0 0) ≡ 12)
    × (read_refusal_of (lent (first ++ header 2 2 0) (25 ∷ 9 ∷ []) 0 0) ≡ 11)
    × (read_refusal_of (lent first (25 ∷ []) 0 1) ≡ 14)
    × (read_refusal_of (lent first (25 ∷ []) 1 0) ≡ 14)
    -- a ZM line, and a run that mixes types; what is no type is 12, never 25; the type is looked at before the count
    × (read_refusal_of (lent third (9 ∷ []) 0 1) ≡ 0)
    × (read_refusal_of (lent (second ++ third) (9 ∷ 9 ∷ []) 0 2) ≡ 25)
    × (read_refusal_of (lent (third ++ header 0 3 0) (9 ∷ 9 ∷ []) 0 2) ≡ 12)
    × (read_refusal_of (lent (third ++ header 0 2 1) (9 ∷ 9 ∷ []) 0 2) ≡ 25)
    -- no room for the type, also for no records
    × (read_refusal_of (record { run = []; lengths = []; coordinates = []; counts = []; type = [] }) ≡ 14)
unfolding reading
read_refusals = (refl, refl, refl, refl, refl, refl, refl, refl, refl, refl, refl, refl, refl, refl, refl)

-- ---- writing

unfoldable writing : Unit {0}
unfolding little_bytes bytes_by record_by chain_record run_of lengths_of any_missing write_refusal_of viewed unless no_chain chain_refusal_of source_of width_of first_of from flat_map
writing = tt

pub numbers_written : (bytes_by 1 8 one ≡ one_little) × (bytes_by 0 8 one ≡ one_big) × (bytes_by 0 8 9218868437227405319 ≡ odd_big)
unfolding writing
numbers_written = (refl, refl, refl)

-- chain 0 is the second coordinate of the input, and chain 1 has none and is of the merged; the sixth number isn't looked at. Record 2 lacks it, and so isn't wholly there
abbrev chains : ℕ → ℕ → ℕ → ℕ → ℕ → LentChains
chains t k order bytes rows = record {
  type = t;
  input = 5 ∷ 5 ∷ one ∷ one ∷ [];
  merged = [];
  table = 0 ∷ 1 ∷ 0 ∷ 1 ∷ 1 ∷ 0 ∷ 1 ∷ 2 ∷ 1 ∷ 0 ∷ 0 ∷ 9 ∷ 3 ∷ 1 ∷ 0 ∷ 0 ∷ 0 ∷ [];
  number = k;
  order = order;
  run = replicate bytes 7;
  lengths = replicate rows 7;
}

pub chains_written : (run_of (chains 2 1 1 0 0) ≡ first) × (run_of (chains 2 2 0 0 0) ≡ turned ++ second) × (lengths_of (chains 2 2 0 0 0) ≡ 25 ∷ 9 ∷ [])
unfolding writing
chains_written = (refl, refl, refl)

pub write_refusals :
    -- room to the last byte and length; one short of either
    (write_refusal_of (chains 2 2 1 34 2) ≡ 0)
    × (write_refusal_of (chains 2 2 1 33 2) ≡ 14)
    × (write_refusal_of (chains 2 2 1 34 1) ≡ 14)
    -- no chains need no room, but an order
    × (write_refusal_of (chains 2 0 1 0 0) ≡ 0)
    × (write_refusal_of (chains 2 0 2 0 0) ≡ 16)
    -- a record that isn't there is refused before a room, and an order before it
    × (write_refusal_of (chains 2 3 1 0 0) ≡ 10)
    × (write_refusal_of (chains 2 3 2 0 0) ≡ 16)
    -- coordinates of three numbers aren't there, and 3 is no type
    × (write_refusal_of (chains 1002 1 1 99 9) ≡ 10)
    × (write_refusal_of (chains 3 3 2 0 0) ≡ 12)
unfolding writing
write_refusals = (refl, refl, refl, refl, refl, refl, refl, refl, refl)
