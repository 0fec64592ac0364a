-- The lines that were read, named by a table: every chain is there, and is the record's line. Rooms may be longer than what stands in them.
use Prim.Native.Nat.{ℕ, suc, ◌+◌, ◌-◌, ◌*◌, ◌≤◌}
use mathlib.Core.Path.{◌≡◌, refl, sym, ap, ap₂, ◌∙◌}
use mathlib.Core.Bool.{false}
use mathlib.Core.List.{List, [], ◌∷◌, ◌++◌, append_assoc}
use native.Mathlib.Omega.{arith}
use native.Mathlib.Nat.{add-mul}
use lib.ListN.{length, take, drop, get_or, length-append}
use lib.Seq.{take_at, drop_at, get_or-append-add}
use borrow.Author.Tests.{le-ltb}
use Rattle.rules.specs.Refusals.{no_chain, entry, source_of, record_size}
use Rattle.rules.specs.Calls.{viewed}
use Rattle.rules.specs.Types.{width_of}
use Rattle.rules.specs.Wkb.{count_of, doubles_of, records_refusal, coordinates_of, counts_of, any_missing, LentChains}
use Rattle.build_question.specs.Parts.{part_of}
use Rattle.build_question.proofs.Laws.{viewed_part, part_there}
use Rattle.wkb_records.proofs.Records.{Good, first_good, record_numbers}
use Rattle.wkb_trips.specs.Trips.{Named, numbers_at, lines_table}

-- what stands in the table behind p is in the whole table
entry_at : (table p l : List ℕ) (k n : ℕ) → table ≡ p ++ l → length p ≡ k * record_size → entry table k n ≡ get_or l n 0
entry_at table p l k n e h =
    ap₂ (λ (t : List ℕ) (m : ℕ). get_or t (m + n) 0) e (sym h) ∙ get_or-append-add p l n 0

pub doubles_long : (t : ℕ) (r : List ℕ) → Good t r → length (doubles_of r) ≡ count_of r * width_of t
doubles_long t r g = let l = g.long in omega (arith, record_numbers r)

-- chain k, by the numbers of its row: the part of the input behind p that has so many coordinates
module _ (t w : ℕ) (wide : w ≡ width_of t) (input merged table p part rest : List ℕ) (k first count : ℕ) (row : k * record_size + record_size ≤ length table)
    (e₂ : entry table k 2 ≡ 0) (e₃ : entry table k 3 ≡ first) (e₄ : entry table k 4 ≡ count)
    (a : input ≡ p ++ (part ++ rest)) (f : length p ≡ first * w) (n : length part ≡ count * w) where
  fits : (first + count) * w ≤ length input
  fits =
      let whole : length input ≡ length p + (length part + length rest) = ap length a ∙ length-append p (part ++ rest) ∙ ap (λ (m : ℕ). length p + m) (length-append part rest) in
      omega (arith, add-mul first count w)

  row_there : no_chain w input merged table k ≡ false
  unfolding no_chain source_of
  row_there = simp (e₂, e₃, e₄, le-ltb (length table) (k * record_size + record_size) row, le-ltb (length input) ((first + count) * w) fits)

  row_viewed : viewed t input merged table k ≡ part
  unfolding source_of
  row_viewed =
      viewed_part t input merged table k ∙ ap (λ (v : ℕ). part_of v input merged table k) (sym wide) ∙ part_there w input merged table k row_there
      ∙ rw (e₂, e₃, e₄) (ap (λ (l : List ℕ). take (count * w) (drop (first * w) l)) a ∙ ap (take (count * w)) (drop_at p (part ++ rest) (first * w) f) ∙ take_at part rest (count * w) n)

module _ (i : LentChains) where
  -- chain k is the line of the record r, which stands behind p in the input and behind q in the table
  one_named : (r p q rest more : List ℕ) (k first : ℕ) → Good i.type r → i.input ≡ p ++ (doubles_of r ++ rest)
      → i.table ≡ q ++ (k ∷ 1 ∷ 0 ∷ first ∷ count_of r ∷ 0 ∷ more) → length q ≡ k * record_size → length p ≡ first * width_of i.type
      → (entry i.table k 4 ≡ count_of r) × (numbers_at i k ≡ doubles_of r) × (no_chain (width_of i.type) i.input i.merged i.table k ≡ false)
  one_named r p q rest more k first g a b h f =
      let w : ℕ = width_of i.type in
      let row : List ℕ = k ∷ 1 ∷ 0 ∷ first ∷ count_of r ∷ 0 ∷ more in
      let e₂ : entry i.table k 2 ≡ 0 = entry_at i.table q row k 2 b h in
      let e₃ : entry i.table k 3 ≡ first = entry_at i.table q row k 3 b h in
      let e₄ : entry i.table k 4 ≡ count_of r = entry_at i.table q row k 4 b h in
      let n : length (doubles_of r) ≡ count_of r * width_of i.type = doubles_long i.type r g in
      let long : length i.table ≡ length q + suc (suc (suc (suc (suc (suc (length more)))))) = ap length b ∙ length-append q row in
      let inside : k * record_size + record_size ≤ length i.table = omega arith in (
        e₄,
        row_viewed i.type (width_of i.type) refl i.input i.merged i.table p (doubles_of r) rest k first (count_of r) inside e₂ e₃ e₄ a f n,
        row_there i.type (width_of i.type) refl i.input i.merged i.table p (doubles_of r) rest k first (count_of r) inside e₂ e₃ e₄ a f n,
      )

  pub lines_named : (l : List (List ℕ)) (p q beyond rows : List ℕ) (k first : ℕ) → records_refusal i.type l ≡ 0
      → i.input ≡ p ++ (coordinates_of l ++ beyond) → i.table ≡ q ++ (lines_table k first (counts_of l) ++ rows) → length q ≡ k * record_size → length p ≡ first * width_of i.type
      → Named i k l × (any_missing (width_of i.type) i.input i.merged i.table k (length l) ≡ false)
  unfolding Named any_missing coordinates_of counts_of lines_table
  lines_named [] p q beyond rows k first z a b h f = (tt, refl)
  lines_named (r ∷ l) p q beyond rows k first z a b h f =
      let g = first_good i.type r l z in
      let rest : List ℕ = coordinates_of l ++ beyond in
      let after : List ℕ = lines_table (suc k) (first + count_of r) (counts_of l) ++ rows in
      let a' : i.input ≡ p ++ (doubles_of r ++ (coordinates_of l ++ beyond)) = a ∙ ap (λ (x : List ℕ). p ++ x) (append_assoc (doubles_of r) (coordinates_of l) beyond) in
      let one = one_named r p q (coordinates_of l ++ beyond) (lines_table (suc k) (first + count_of r) (counts_of l) ++ rows) k first g.0 a' b h f in
      let row : List ℕ = k ∷ 1 ∷ 0 ∷ first ∷ count_of r ∷ 0 ∷ [] in
      let n : length (doubles_of r) ≡ count_of r * width_of i.type = doubles_long i.type r g.0 in
      let more = lines_named l (p ++ doubles_of r) (q ++ row) beyond rows (suc k) (first + count_of r) g.1
      (a' ∙ sym (append_assoc p (doubles_of r) (coordinates_of l ++ beyond)))
      (b ∙ sym (append_assoc q row (lines_table (suc k) (first + count_of r) (counts_of l) ++ rows)))
      (length-append q row ∙ omega arith)
      (length-append p (doubles_of r) ∙ omega (arith, add-mul first (count_of r) (width_of i.type))) in
      ((one.0, one.1, more.0), rw (one.2, any_missing) more.1)
