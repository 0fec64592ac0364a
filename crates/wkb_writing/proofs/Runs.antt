-- Writing chains one behind another. What is written so far and the records of the chains that are left is the whole; so the end is the whole.
use Prim.Native.Nat.{ℕ, suc, ◌+◌, ◌-◌, ◌*◌, ◌≤◌, ◌<◌}
use mathlib.Core.Path.{◌≡◌, refl, sym, ap, ◌∙◌, subst}
use mathlib.Core.Bool.{Bool, true, false}
use mathlib.Core.List.{List, [], ◌∷◌, ◌++◌, map, flat_map, append_assoc, append-nil}
use native.Mathlib.Omega.{arith}
use native.Mathlib.Numerals.{add-one}
use lib.ListN.{length, set, length-set}
use Rattle.rules.specs.Lists.{from}
use Rattle.rules.specs.Refusals.{no_chain, entry}
use Rattle.point_slices.specs.Holds.{Holds}
use Rattle.point_slices.proofs.Laws.{from_length}
use Rattle.rules.specs.Calls.{viewed}
use Rattle.rules.specs.Wkb.{size_of, any_missing, chain_record, LentChains, run_of, lengths_of}
use Rattle.point_slices.proofs.Beginnings.{holds_more, holds_set, whole}
use Rattle.wkb_writing.specs.Writing.{bytes_from, RecordPut, chain_bytes, Chain, Writable, Written}
use Rattle.wkb_writing.proofs.Laws.{record_length}
use Rattle.wkb_writing.proofs.Chains.{view_long, missing_here, missing_next, bytes_next}

-- ---- chains from j on

from_next : (j k : ℕ) → j < k → from j (k - j) ≡ j ∷ from (j + 1) (k - (j + 1))
unfolding from
from_next j k h = let e : k - j ≡ suc (k - (j + 1)) = omega arith in ap (from j) e ∙ rw add-one

from_none : (j k : ℕ) → k ≤ j → from j (k - j) ≡ []
unfolding from
from_none j k h = let e : k - j ≡ 0 = omega arith in ap (from j) e

-- the records of the chains from j on, and their lengths
abbrev records : LentChains → ℕ → List ℕ
records i j = flat_map (chain_record i) (from j (i.number - j))

abbrev sizes : LentChains → ℕ → List ℕ
sizes i j = map (λ k. length (chain_record i k)) (from j (i.number - j))

records_next : (i : LentChains) (j : ℕ) → j < i.number → records i j ≡ chain_record i j ++ records i (j + 1)
unfolding flat_map
records_next i j h = ap (flat_map (chain_record i)) (from_next j i.number h)

sizes_next : (i : LentChains) (j : ℕ) → j < i.number → sizes i j ≡ length (chain_record i j) ∷ sizes i (j + 1)
sizes_next i j h = ap (map (λ (k : ℕ). length (chain_record i k))) (from_next j i.number h)

-- ---- the loop

pub record Writing (w : ℕ) (i : LentChains) (run lengths : List ℕ) (at j : ℕ) : Type 0 where
  pub few : j ≤ i.number
  pub there : any_missing w i.input i.merged i.table j (i.number - j) ≡ false
  pub room : at + bytes_from w i.table j (i.number - j) ≤ length i.run
  pub same_run : length run ≡ length i.run
  pub same_lengths : length lengths ≡ length i.lengths
  pub bytes : List ℕ
  pub holds : Holds run i.run at bytes
  pub bytes_left : bytes ++ records i j ≡ run_of i
  pub tally : List ℕ
  pub held : Holds lengths i.lengths j tally
  pub tally_left : tally ++ sizes i j ≡ lengths_of i

pub start : (w : ℕ) (i : LentChains) → Writable w i → Writing w i i.run i.lengths 0 0
unfolding run_of lengths_of
start w i s =
    let e : i.number ≡ i.number - 0 = omega arith in
    record {
      few = omega arith;
      there = rw e at s.there;
      room = rw (← e) (omega (arith, s.room));
      same_run = refl;
      same_lengths = refl;
      bytes = [];
      holds = record { count = refl; list = refl };
      bytes_left = ap (λ (n : ℕ). flat_map (chain_record i) (from 0 n)) (sym e);
      tally = [];
      held = record { count = refl; list = refl };
      tally_left = ap (λ (n : ℕ). map (λ (k : ℕ). length (chain_record i k)) (from 0 n)) (sym e);
    }

module _ {w : ℕ} {i : LentChains} {run lengths : List ℕ} {at j : ℕ} (a : Writable w i) (s : Writing w i run lengths at j) (b : j < i.number) where
  here : no_chain w i.input i.merged i.table j ≡ false
  here = go (no_chain w i.input i.merged i.table j) refl
    where
      go : (t : Bool) → no_chain w i.input i.merged i.table j ≡ t → no_chain w i.input i.merged i.table j ≡ false
      go true e = e ∙ sym (missing_here w i.input i.merged i.table j i.number b e) ∙ s.there
      go false e = e

  pub chain : Chain run at i.type w i.input i.merged i.table j
  chain = record {
    wide = a.wide;
    narrow = a.narrow;
    there = here;
    room = omega (arith, s.room, s.same_run, bytes_next w i.input i.merged i.table j i.number b);
  }

  -- how long the chain's record is
  size : length (chain_record i j) ≡ size_of w (entry i.table j 4)
  unfolding chain_record
  size =
      record_length i.order i.type (entry i.table j 4) (viewed i.type i.input i.merged i.table j)
      ∙ ap (λ (n : ℕ). 9 + n * 8) (view_long i.type i.input i.merged i.table j (ap (λ (v : ℕ). no_chain v i.input i.merged i.table j) (sym a.wide) ∙ here)
      ∙ ap (λ (v : ℕ). entry i.table j 4 * v) (sym a.wide))

  put : {run' : List ℕ} {r : ℕ} → RecordPut run' run at r (chain_bytes i.order i.type i.input i.merged i.table j) → RecordPut run' run at r (chain_record i j)
  unfolding chain_record
  put p = p

  pub step : {run' : List ℕ} {r : ℕ} → RecordPut run' run at r (chain_bytes i.order i.type i.input i.merged i.table j)
      → Writing w i run' (set lengths j (r - at)) r (j + 1)
  step {run'} {r} p =
      let c = put p in
      let next = bytes_next w i.input i.merged i.table j i.number b in
      let z = size in
      record {
        few = omega arith;
        there = sym (missing_next w i.input i.merged i.table j i.number b here) ∙ s.there;
        room = omega (arith, s.room, c.end);
        same_run = from_length c.holds (omega (arith, s.room, s.same_run)) ∙ s.same_run;
        same_lengths = simp length-set s.same_lengths;
        bytes = s.bytes ++ chain_record i j;
        holds = subst (λ (n : ℕ). Holds run' i.run n (s.bytes ++ chain_record i j)) (sym c.end) (holds_more s.holds c.holds);
        bytes_left = append_assoc s.bytes (chain_record i j) (records i (j + 1)) ∙ ap (λ (t : List ℕ). s.bytes ++ t) (sym (records_next i j b)) ∙ s.bytes_left;
        tally = s.tally ++ (length (chain_record i j) ∷ []);
        held = subst (λ (n : ℕ). Holds (set lengths j n) i.lengths (j + 1) (s.tally ++ (length (chain_record i j) ∷ []))) (omega (arith, c.end))
            (holds_set s.held (omega (arith, a.rows)) (length (chain_record i j)));
        tally_left = append_assoc s.tally (length (chain_record i j) ∷ []) (sizes i (j + 1)) ∙ ap (λ (t : List ℕ). s.tally ++ t) (sym (sizes_next i j b)) ∙ s.tally_left;
      }

pub stop : {w : ℕ} {i : LentChains} {run lengths : List ℕ} {at j : ℕ} → Writing w i run lengths at j → i.number ≤ j → Written i at run lengths
unfolding flat_map
stop {w} {i} {run} {lengths} {at} {j} s b =
    let all : s.bytes ≡ run_of i = sym (append-nil s.bytes) ∙ ap (λ (l : List ℕ). s.bytes ++ flat_map (chain_record i) l) (sym (from_none j i.number b)) ∙ s.bytes_left in
    let rows : s.tally ≡ lengths_of i = sym (append-nil s.tally) ∙ ap (λ (l : List ℕ). s.tally ++ map (λ (k : ℕ). length (chain_record i k)) l) (sym (from_none j i.number b)) ∙ s.tally_left in
    record { bytes = s.holds.count ∙ ap length all; records = whole s.holds all; sizes = whole s.held rows }
