-- What writing chains asks for, and what it leaves.
use Rattle.std.specs.Prelude.{ℕ, zero, suc, ◌+◌, ◌≤◌, ◌≡◌, false, length}
use mathlib.Core.List.{List}
use Rattle.rules.specs.Refusals.{entry, no_chain}
use Rattle.rules.specs.Calls.{written, viewed}
use Rattle.rules.specs.Types.{width_of}
use Rattle.rules.specs.Wkb.{size_of, any_missing, record_by, LentChains, run_of, lengths_of}
use Rattle.point_slices.specs.Holds.{HoldsFrom}

-- the bytes stand from `at` up to r
pub record RecordPut (run' run : List ℕ) (at r : ℕ) (bytes : List ℕ) : Type 0 where
  pub end : r ≡ at + length bytes
  pub holds : HoldsFrom run' run at (length bytes) bytes

-- chain k as a record of type t
abbrev pub chain_bytes : ℕ → ℕ → List ℕ → List ℕ → List ℕ → ℕ → List ℕ
chain_bytes order t input merged table k = record_by order t (entry table k 4) (viewed t input merged table k)

-- chain k is there, with room for its record
pub record Chain (run : List ℕ) (at t w : ℕ) (input merged table : List ℕ) (k : ℕ) : Type 0 where
  pub wide : w ≡ width_of t
  pub narrow : w ≤ 4
  pub there : no_chain w input merged table k ≡ false
  pub room : at + size_of w (entry table k 4) ≤ length run

-- the bytes of n records from chain j on, by their counts
unfoldable pub bytes_from : ℕ → List ℕ → ℕ → ℕ → ℕ
bytes_from w table j zero = 0
bytes_from w table j (suc n) = size_of w (entry table j 4) + bytes_from w table (suc j) n

-- all chains are there, with room for their records and lengths
pub record Writable (w : ℕ) (i : LentChains) : Type 0 where
  pub wide : w ≡ width_of i.type
  pub narrow : w ≤ 4
  pub there : any_missing w i.input i.merged i.table 0 i.number ≡ false
  pub room : bytes_from w i.table 0 i.number ≤ length i.run
  pub rows : i.number ≤ length i.lengths

pub record Written (i : LentChains) (r : ℕ) (run' lengths' : List ℕ) : Type 0 where
  pub bytes : r ≡ length (run_of i)
  pub records : run' ≡ written (run_of i) i.run
  pub sizes : lengths' ≡ written (lengths_of i) i.lengths
