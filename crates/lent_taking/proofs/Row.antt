-- Records whose members are in a row: what the first q name of a slice is its front, and each record counts the members before it as it is. So taking them
-- one by one is taking the slices as they are.
use Prim.Native.Nat.{ℕ, zero, suc, ◌+◌, ◌*◌, ◌-◌, ◌≤◌, ◌<◌}
use mathlib.Core.Path.{◌≡◌, refl, sym, ap, ap₂, ◌∙◌, subst}
use mathlib.Core.Bool.{Bool, true, false, ◌&&◌, true≢false}
use mathlib.Core.List.{[], List, ◌∷◌, ◌++◌, flat_map}
use native.Mathlib.Omega.{arith}
use native.Mathlib.Numerals.{add-one}
use lib.Dec.{eqb}
use lib.ListN.{length, get_or, take, drop, length-drop}
use lib.Seq.{take-add, get_or-drop, length-take-le}
use borrow.Author.Tests.{eqb-true, eq-eqb, ne_eqb}
use Rattle.rules.specs.Lists.{upto}
use Rattle.rules.specs.Refusals.{piece_size}
use Rattle.chain_pieces.specs.Map.{node_block, taken_block, taken_listing, taken_marks, taken_members}
use Rattle.point_slices.specs.Holds.{HoldsFrom}
use Rattle.point_slices.proofs.Laws.{from_length, from_part, slice_below, drop_past}
use Rattle.lent_taking.specs.Taking.{part_at, parts_to, taken_row, PiecesTakable, Took}
use Rattle.lent_taking.specs.Row.{row_end, in_row}
use Rattle.lent_taking.proofs.Parts.{flat_next, flat_start}

-- ---- the test

and_left : (a b : Bool) → (a && b) ≡ true → a ≡ true
and_left true b e = refl
and_left false b e = absurd (true≢false (sym e))

and_right : (a b : Bool) → (a && b) ≡ true → b ≡ true
and_right true b e = e
and_right false b e = absurd (true≢false (sym e))

module _ (pieces : List ℕ) where
  pub row_start : in_row pieces 0 ≡ true
  unfolding in_row
  row_start = refl

  pub end_start : row_end pieces 0 ≡ 0
  unfolding row_end
  end_start = refl

  pub end_next : (q : ℕ) → row_end pieces (q + 1) ≡ get_or pieces (q * piece_size) 0 + get_or pieces (q * piece_size + 1) 0
  unfolding row_end
  end_next q = rw add-one refl

  pub row_next : (q : ℕ) → in_row pieces q ≡ true → get_or pieces (q * piece_size) 0 ≡ row_end pieces q → in_row pieces (q + 1) ≡ true
  unfolding in_row
  row_next q r e = rw add-one (rw r (eq-eqb (get_or pieces (q * piece_size) 0) (row_end pieces q) e))

  -- one that begins elsewhere
  row_broken : (q : ℕ) → in_row pieces q ≡ true → (get_or pieces (q * piece_size) 0 ≡ row_end pieces q → ⊥) → in_row pieces (suc q) ≡ false
  unfolding in_row
  row_broken q r d = rw r (ne_eqb (get_or pieces (q * piece_size) 0) (row_end pieces q) d)

  broken_on : (a q : ℕ) → in_row pieces q ≡ false → in_row pieces (a + q) ≡ false
  unfolding in_row
  broken_on zero q e = let z : zero + q ≡ q = omega arith in ap (in_row pieces) z ∙ e
  broken_on (suc a) q e =
      let z : suc a + q ≡ suc (a + q) = omega arith in
      ap (in_row pieces) z ∙ ap (λ (b : Bool). b && eqb (get_or pieces ((a + q) * piece_size) 0) (row_end pieces (a + q))) (broken_on a q e)

  pub row_off : (q k : ℕ) → q < k → in_row pieces q ≡ true → (get_or pieces (q * piece_size) 0 ≡ row_end pieces q → ⊥) → false ≡ in_row pieces k
  row_off q k b r d =
      let z : k - suc q + suc q ≡ k = omega arith in
      sym (ap (in_row pieces) (sym z) ∙ broken_on (k - suc q) (suc q) (row_broken q r d))

  row_before : (q : ℕ) → in_row pieces (suc q) ≡ true → in_row pieces q ≡ true
  unfolding in_row
  row_before q e = and_left (in_row pieces q) (eqb (get_or pieces (q * piece_size) 0) (row_end pieces q)) e

  row_first : (q : ℕ) → in_row pieces (suc q) ≡ true → get_or pieces (q * piece_size) 0 ≡ row_end pieces q
  unfolding in_row
  row_first q e = eqb-true _ _ (and_right (in_row pieces q) (eqb (get_or pieces (q * piece_size) 0) (row_end pieces q)) e)

  end_suc : (q : ℕ) → row_end pieces (suc q) ≡ get_or pieces (q * piece_size) 0 + get_or pieces (q * piece_size + 1) 0
  unfolding row_end
  end_suc q = refl

  -- ---- what they name

  parts_suc : (s : List ℕ) (q : ℕ) → parts_to pieces s (suc q) ≡ parts_to pieces s q ++ part_at pieces s q
  parts_suc s q = subst (λ (i : ℕ). parts_to pieces s i ≡ parts_to pieces s q ++ part_at pieces s q) (add-one q) (flat_next (part_at pieces s) q)

  pub row_parts : (s : List ℕ) (q : ℕ) → in_row pieces q ≡ true → parts_to pieces s q ≡ take (row_end pieces q) s
  row_parts s zero r = flat_start (part_at pieces s) ∙ ap (λ (i : ℕ). take i s) (sym end_start)
  row_parts s (suc q) r =
      let f = row_first q r in
      parts_suc s q
      ∙ ap (λ (t : List ℕ). t ++ part_at pieces s q) (row_parts s q (row_before q r) ∙ ap (λ (i : ℕ). take i s) (sym f))
      ∙ sym (take-add (get_or pieces (q * piece_size) 0) (get_or pieces (q * piece_size + 1) 0) s)
      ∙ ap (λ (i : ℕ). take i s) (sym (end_suc q))

  pub row_fits : (s : List ℕ) (k : ℕ) → ((q : ℕ) → q < k → get_or pieces (q * piece_size) 0 + get_or pieces (q * piece_size + 1) 0 ≤ length s) → row_end pieces k ≤ length s
  row_fits s zero h = omega (arith, end_start)
  row_fits s (suc k) h = omega (arith, end_suc k, h k (omega arith))

-- ---- the records

five : (t : List ℕ) → 5 ≤ length t → take 5 t ≡ get_or t 0 0 ∷ get_or t 1 0 ∷ get_or t 2 0 ∷ get_or t 3 0 ∷ get_or t 4 0 ∷ []
five [] h = absurd (omega arith)
five (a ∷ []) h = absurd (omega arith)
five (a ∷ b ∷ []) h = absurd (omega arith)
five (a ∷ b ∷ c ∷ []) h = absurd (omega arith)
five (a ∷ b ∷ c ∷ d ∷ []) h = absurd (omega arith)
five (a ∷ b ∷ c ∷ d ∷ e ∷ t) h = refl

five_at : (l : List ℕ) (a : ℕ) → a + 5 ≤ length l → take 5 (drop a l) ≡ get_or l a 0 ∷ get_or l (a + 1) 0 ∷ get_or l (a + 2) 0 ∷ get_or l (a + 3) 0 ∷ get_or l (a + 4) 0 ∷ []
five_at l a h =
    let z : get_or (drop a l) 0 0 ≡ get_or l a 0 = get_or-drop a l 0 0 ∙ (let e : a + 0 ≡ a = omega arith in ap (λ (i : ℕ). get_or l i 0) e) in
    five (drop a l) (omega (arith, length-drop a l))
    ∙ rw (z, get_or-drop a l 1 0, get_or-drop a l 2 0, get_or-drop a l 3 0, get_or-drop a l 4 0) refl

module _ (pieces members : List ℕ) where
  pub row_records : (q : ℕ) → in_row pieces q ≡ true → row_end pieces q ≤ length members → q * piece_size ≤ length pieces
      → flat_map (taken_row pieces members) (upto q) ≡ take (q * piece_size) pieces
  row_records zero r f h = flat_start (taken_row pieces members)
  row_records (suc q) r f h =
      let b = row_before pieces q r in
      let e : get_or pieces (q * piece_size) 0 ≡ row_end pieces q = row_first pieces q r in
      let low : row_end pieces q ≤ length members = omega (arith, end_suc pieces q) in
      let m : length (parts_to pieces members q) ≡ get_or pieces (q * piece_size) 0 =
      ap length (row_parts pieces members q b) ∙ length-take-le (row_end pieces q) members low ∙ sym e
      in
      let z : q * piece_size + piece_size ≡ suc q * piece_size = omega arith in
      subst (λ (i : ℕ). flat_map (taken_row pieces members) (upto i) ≡ flat_map (taken_row pieces members) (upto q) ++ taken_row pieces members q) (add-one q) (flat_next (taken_row pieces members) q)
      ∙ ap₂ (λ (s t : List ℕ). s ++ t) (row_records q b low (omega arith))
      (ap (λ (i : ℕ). i ∷ get_or pieces (q * piece_size + 1) 0 ∷ get_or pieces (q * piece_size + 2) 0 ∷ get_or pieces (q * piece_size + 3) 0 ∷ get_or pieces (q * piece_size + 4) 0 ∷ []) m
      ∙ sym (five_at pieces (q * piece_size) (omega arith)))
      ∙ sym (take-add (q * piece_size) piece_size pieces)
      ∙ ap (λ (i : ℕ). take i pieces) z

-- ---- what is put

module _ (c : ℕ) (s : List ℕ) (h : c ≤ length s) where
  pub front_long : length (take c s) ≡ c
  front_long = length-take-le c s h

  front_holds : {l' l : List ℕ} {at : ℕ} → HoldsFrom l' l at (length (take c s)) (take c s) → HoldsFrom l' l at c (take c s)
  front_holds {l'} {l} {at} g = subst (λ (k : ℕ). HoldsFrom l' l at k (take c s)) front_long g

module _ {w : List ℕ} {n k : ℕ} {pieces members marks listing : List ℕ} (y : PiecesTakable w n k pieces members marks listing) (r : in_row pieces k ≡ true) where
  pub members_fit : row_end pieces k ≤ length members
  members_fit = row_fits pieces members k (λ q b. (y.inside q b).members_in)

  pub marks_fit : row_end pieces k ≤ length marks
  marks_fit = row_fits pieces marks k (λ q b. (y.inside q b).marks_in)

  pub listing_fit : row_end pieces k ≤ length listing
  listing_fit = row_fits pieces listing k (λ q b. (y.inside q b).listing_in)

  number : row_end pieces k ≡ length (parts_to pieces members k)
  number = sym (ap length (row_parts pieces members k r) ∙ length-take-le (row_end pieces k) members members_fit)

  pub row_few : row_end pieces k ≤ n
  row_few = omega (arith, number, y.members_few)

  module _ {m : ℕ} (e : m ≡ row_end pieces k) {one two three w' : List ℕ}
      (a : HoldsFrom one w (n * taken_block) (length (take (k * piece_size) pieces)) (take (k * piece_size) pieces))
      (b : HoldsFrom two one (n * taken_members) (length (take m members)) (take m members))
      (c : HoldsFrom three two (n * taken_marks) (length (take m marks)) (take m marks))
      (d : HoldsFrom w' three (n * taken_listing) (length (take m listing)) (take m listing)) where
    row : HoldsFrom one w (n * taken_block) (k * piece_size) (take (k * piece_size) pieces)
    row = front_holds (k * piece_size) pieces y.records_in a

    listed : HoldsFrom two one (n * taken_members) m (take m members)
    listed = front_holds m members (omega (arith, members_fit)) b

    turned : HoldsFrom three two (n * taken_marks) m (take m marks)
    turned = front_holds m marks (omega (arith, marks_fit)) c

    passed : HoldsFrom w' three (n * taken_listing) m (take m listing)
    passed = front_holds m listing (omega (arith, listing_fit)) d

    row_in : n * taken_block + k * piece_size ≤ length w
    row_in = omega (arith, y.room, y.number)

    size_one : length one ≡ length w
    size_one = from_length row row_in

    listed_in : n * taken_members + m ≤ length one
    listed_in = omega (arith, y.room, row_few, size_one)

    size_two : length two ≡ length one
    size_two = from_length listed listed_in

    turned_in : n * taken_marks + m ≤ length two
    turned_in = omega (arith, y.room, row_few, size_one, size_two)

    size_three : length three ≡ length two
    size_three = from_length turned turned_in

    passed_in : n * taken_listing + m ≤ length three
    passed_in = omega (arith, y.room, row_few, size_one, size_two, size_three)

    parts : (s : List ℕ) → take m s ≡ parts_to pieces s k
    parts s = ap (λ (i : ℕ). take i s) e ∙ sym (row_parts pieces s k r)

    -- ALL ARE TAKEN AS THEY ARE
    pub took_row : Took w' w n k pieces members marks listing m
    took_row =
        record {
          size = from_length passed passed_in ∙ size_three ∙ size_two ∙ size_one;
          rest =
              drop_past passed passed_in (n * node_block) (omega (arith, row_few))
              ∙ drop_past turned turned_in (n * node_block) (omega (arith, row_few))
              ∙ drop_past listed listed_in (n * node_block) (omega (arith, row_few))
              ∙ drop_past row row_in (n * node_block) (omega (arith, y.number));
          number = e ∙ number;
          records =
              slice_below passed passed_in (n * taken_block) (n * taken_block + k * piece_size) (omega (arith, y.number))
              ∙ slice_below turned turned_in (n * taken_block) (n * taken_block + k * piece_size) (omega (arith, y.number))
              ∙ slice_below listed listed_in (n * taken_block) (n * taken_block + k * piece_size) (omega (arith, y.number))
              ∙ from_part row row_in
              ∙ sym (row_records pieces members k r members_fit y.records_in);
          listed =
              slice_below passed passed_in (n * taken_members) (n * taken_members + m) (omega (arith, row_few))
              ∙ slice_below turned turned_in (n * taken_members) (n * taken_members + m) (omega (arith, row_few))
              ∙ from_part listed listed_in
              ∙ parts members;
          turned =
              slice_below passed passed_in (n * taken_marks) (n * taken_marks + m) (omega (arith, row_few))
              ∙ from_part turned turned_in
              ∙ parts marks;
          passed = from_part passed passed_in ∙ parts listing;
        }
