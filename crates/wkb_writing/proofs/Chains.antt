-- Chains of a table: how long the view of a chain that is there is, its record, and chains one after another.
use Prim.Native.Nat.{ℕ, zero, suc, ◌+◌, ◌-◌, ◌*◌, ◌≤◌, ◌<◌}
use mathlib.Core.Path.{◌≡◌, refl, sym, ap, ◌∙◌, subst}
use mathlib.Core.Bool.{Bool, true, false, ◌||◌}
use mathlib.Core.List.{List}
use native.Mathlib.Omega.{arith}
use native.Mathlib.Nat.{add-mul}
use native.Mathlib.Numerals.{add-one}
use lib.ListN.{length, drop, length-drop}
use lib.Seq.{length-take-le}
use lib.Dec.{ltb}
use borrow.Author.Tests.{lt-ltb, le-ltb}
use Rattle.std.specs.List.{list_any, range_with_len}
use Rattle.rules.specs.Refusals.{entry, source_of, no_chain}
use Rattle.rules.specs.Calls.{viewed}
use Rattle.rules.specs.Types.{width_of}
use Rattle.rules.specs.Wkb.{record_by, any_missing, size_of}
use Rattle.build_question.specs.Parts.{part_of}
use Rattle.build_question.proofs.Laws.{stands, part_there, viewed_part}
use Rattle.wkb_writing.specs.Writing.{bytes_from, RecordPut, chain_bytes, Chain}

-- ---- a chain that is there

part_long : (w : ℕ) (input merged table : List ℕ) (k : ℕ) → no_chain w input merged table k ≡ false
    → length (part_of w input merged table k) ≡ entry table k 4 * w
part_long w input merged table k e =
    let s = stands w input merged table k e in
    let inside : entry table k 3 * w + entry table k 4 * w ≤ length (source_of (entry table k 2) input merged) = omega (arith, s.part, add-mul (entry table k 3) (entry table k 4) w) in
    rw (part_there w input merged table k e)
    (length-take-le (entry table k 4 * w) (drop (entry table k 3 * w) (source_of (entry table k 2) input merged)) (simp length-drop (omega arith)))

pub view_long : (t : ℕ) (input merged table : List ℕ) (k : ℕ) → no_chain (width_of t) input merged table k ≡ false
    → length (viewed t input merged table k) ≡ entry table k 4 * width_of t
view_long t input merged table k e = ap length (viewed_part t input merged table k) ∙ part_long (width_of t) input merged table k e

module _ {run input merged table : List ℕ} {at t w k : ℕ} (c : Chain run at t w input merged table k) where
  -- the record of its view has room
  pub view_room : {numbers : List ℕ} → numbers ≡ part_of w input merged table k → at + (9 + length numbers * 8) ≤ length run
  view_room {numbers} e =
      let long : length numbers ≡ entry table k 4 * w = ap length e ∙ part_long w input merged table k c.there in
      omega (arith, long, c.room)

  pub chain_put : {run' numbers : List ℕ} {r : ℕ} (order : ℕ) → numbers ≡ part_of w input merged table k
      → RecordPut run' run at r (record_by order t (entry table k 4) numbers) → RecordPut run' run at r (chain_bytes order t input merged table k)
  chain_put {run'} {numbers} {r} order e p =
      subst (λ (l : List ℕ). RecordPut run' run at r (record_by order t (entry table k 4) l))
      (e ∙ ap (λ (v : ℕ). part_of v input merged table k) c.wide ∙ sym (viewed_part t input merged table k)) p

-- ---- chains from j on, of k

rest : (j k : ℕ) → j < k → k - j ≡ suc (k - (j + 1))
rest j k h = omega arith

module _ (w : ℕ) (input merged table : List ℕ) (j k : ℕ) (h : j < k) where
  pub missing_here : no_chain w input merged table j ≡ true → any_missing w input merged table j (k - j) ≡ true
  unfolding any_missing
  missing_here e = ap (any_missing w input merged table j) (rest j k h) ∙ rw (e, any_missing)

  pub missing_next : no_chain w input merged table j ≡ false → any_missing w input merged table j (k - j) ≡ any_missing w input merged table (j + 1) (k - (j + 1))
  unfolding any_missing
  missing_next e = ap (any_missing w input merged table j) (rest j k h) ∙ rw (e, any_missing, add-one)

  pub bytes_next : bytes_from w table j (k - j) ≡ size_of w (entry table j 4) + bytes_from w table (j + 1) (k - (j + 1))
  unfolding bytes_from
  bytes_next = ap (bytes_from w table j) (rest j k h) ∙ rw add-one

pub bytes_none : (w : ℕ) (table : List ℕ) (j k : ℕ) → k ≤ j → bytes_from w table j (k - j) ≡ 0
unfolding bytes_from
bytes_none w table j k h = let z : k - j ≡ 0 = omega arith in ap (bytes_from w table j) z

-- the room is short, or everything was taken from it
pub room_passed : (room all left size rest : ℕ) → left ≤ room → left + all ≡ room + (size + rest) → left < size → true ≡ ltb room all
room_passed room all left size rest a b c = sym (lt-ltb room all (omega arith))

pub room_enough : (room all left : ℕ) → left ≤ room → left + all ≡ room + 0 → false ≡ ltb room all
room_enough room all left a b = sym (le-ltb room all (omega arith))

pub missing_is : (w : ℕ) (input merged table : List ℕ) (j k : ℕ) → list_any (no_chain w input merged table) (range_with_len j k) ≡ any_missing w input merged table j k
unfolding any_missing
missing_is w input merged table j zero = refl
missing_is w input merged table j (suc k) = go (no_chain w input merged table j) (ap (λ (i : ℕ). list_any (no_chain w input merged table) (range_with_len i k)) (add-one j) ∙ missing_is w input merged table (suc j) k)
  where
    go : (b : Bool) → list_any (no_chain w input merged table) (range_with_len (j + 1) k) ≡ any_missing w input merged table (suc j) k
        → (b || list_any (no_chain w input merged table) (range_with_len (j + 1) k)) ≡ elim b [ true ↦ true | false ↦ any_missing w input merged table (suc j) k ]
    go true e = refl
    go false e = e
