-- Reading pieces that stand one after another: record q names the lines, the marks, the listing and the points of piece q, and stays in its slices.
-- It is true because a record counts what the pieces before it wrote, and that is what stands before.
use Prim.Native.Nat.{ℕ, suc, ◌+◌, ◌*◌, ◌≤◌, ◌<◌}
use mathlib.Core.Path.{◌≡◌, refl, sym, ap, ap₂, ◌∙◌}
use mathlib.Core.Logic.{◌≢◌}
use mathlib.Core.List.{List, ◌∷◌, ◌++◌, flat_map}
use native.Mathlib.Omega.{arith}
use native.Mathlib.Decide.{ℕ_discrete}
use native.Mathlib.Nat.{mul-le-mul_right, add-mul}
use lib.ListN.{length, get_or, take, drop, length-append, length-take}
use lib.Seq.{split_at, length-take-le, get_or-take, get_or-drop}
use Rattle.rules.specs.Plane.{flat}
use Rattle.rules.specs.Chaining.{Piece, nothing}
use Rattle.rules.specs.Layout.{Lines, copy, five, piece_table}
use Rattle.rules.specs.Refusals.{piece_size, source_of}
use Rattle.rules.specs.Pieces.{LentPieces, first_member, member_count, source, first_point, point_count, part_of, members_at, marks_at, listing_at, named, numbers_at}
use Rattle.chain_laws.proofs.Lines.{flat_map_append}
use Rattle.chain_laws.proofs.Records.{five_length, rows_length, row_at, field_at, copy_at}
use Rattle.chain_laws.proofs.Counts.{Each, each_of, each_get_d}
use Rattle.chain_laws.proofs.Drawn.{Drawn, listing_long, marks_all, listings_long}
use Rattle.point_numbers.proofs.Points.{flat_length}
use Rattle.chain_pieces.specs.Held.{lines_of, place_of, Own}
use Rattle.chain_pieces.specs.Compact.{Compact}
use Rattle.chain_pieces.proofs.Reading.{five_own, five_copied, five_common, copied_yes, copy_all, part_front}

-- what stands at the front of a slice is not longer than it
fits : (k : ℕ) (s x : List ℕ) → take k s ≡ x → length x ≡ k → k ≤ length s
fits k s x e h = omega (arith, length-take k s, ap length e)

-- the slice of a source
source_one : (k : ℕ) (a b : List ℕ) → k ≡ 1 → source_of k a b ≡ b
unfolding source_of
source_one k a b e = ap (λ (i : ℕ). source_of i a b) e

source_none : (k : ℕ) (a b : List ℕ) → k ≡ 0 → source_of k a b ≡ a
unfolding source_of
source_none k a b e = ap (λ (i : ℕ). source_of i a b) e

module _ (w : ℕ) (l : Lines) (p : LentPieces) (ps : List Piece) (h : Compact w l.counts ps p) where
  pub records_inside : p.number * piece_size ≤ length p.records
  records_inside =
      rw h.number (fits (length ps * piece_size) p.records _ h.records (rows_length (five l.counts) piece_size (five_length l.counts) 0 0 ps))

  module _ (drawn : Each Drawn ps) (q : ℕ) (b : q < length ps) where
    abbrev at : Piece
    at = get_or ps q nothing

    abbrev pre : List Piece
    pre = take q ps

    abbrev post : List Piece
    post = drop (suc q) ps

    whole : ps ≡ pre ++ (at ∷ post)
    whole = split_at ps q nothing b

    pre_size : length pre ≡ q
    pre_size = length-take-le q ps (omega arith)

    -- how long a list is that each piece has a part of
    split : {A : Type 0} (f : Piece → List A) → length (flat_map f ps) ≡ length (flat_map f pre) + (length (f at) + length (flat_map f post))
    unfolding flat_map
    split f =
        ap (λ (t : List Piece). length (flat_map f t)) whole
        ∙ ap length (flat_map_append f pre (at ∷ post))
        ∙ length-append (flat_map f pre) (f at ++ flat_map f post)
        ∙ ap (λ (k : ℕ). length (flat_map f pre) + k) (length-append (f at) (flat_map f post))

    pub split_lines : length (lines_of (take q ps)) + length (get_or ps q nothing).lines ≤ length (lines_of ps)
    split_lines = omega (arith, split (λ (r : Piece). r.lines))

    -- ---- the five numbers

    abbrev numbers : List ℕ
    numbers = five l.counts (length (lines_of pre)) (length (flat_map copy pre)) at

    numbers_are : take piece_size (drop (q * piece_size) (piece_table l.counts 0 0 ps)) ≡ numbers
    numbers_are =
        ap₂ (λ (k : ℕ) (t : List Piece). take piece_size (drop (k * piece_size) (piece_table l.counts 0 0 t))) (sym pre_size) whole
        ∙ row_at (five l.counts) piece_size (five_length l.counts) pre at post

    number : (i : ℕ) → i < piece_size → get_or p.records (q * piece_size + i) 0 ≡ get_or numbers i 0
    number i c =
        sym (
        ap (λ (t : List ℕ). get_or t i 0) (sym numbers_are)
        ∙ get_or-take piece_size (drop (q * piece_size) (piece_table l.counts 0 0 ps)) i 0 c
        ∙ get_or-drop (q * piece_size) (piece_table l.counts 0 0 ps) i 0
        ∙ ap (λ (t : List ℕ). get_or t (q * piece_size + i) 0) (sym h.records)
        ∙ get_or-take (length ps * piece_size) p.records (q * piece_size + i) 0 (omega arith)
        )

    common : (get_or numbers 0 0 ≡ length (lines_of pre)) × (get_or numbers 1 0 ≡ length at.lines) × (get_or numbers 4 0 ≡ length at.points)
    common = five_common l.counts (length (lines_of pre)) (length (flat_map copy pre)) at

    pub first_is : first_member w l p q ≡ length (lines_of pre)
    first_is = let e : q * piece_size ≡ q * piece_size + 0 = omega arith in ap (λ (k : ℕ). get_or p.records k 0) e ∙ number 0 (omega arith) ∙ common.0

    pub count_is : member_count w l p q ≡ length at.lines
    count_is = number 1 (omega arith) ∙ common.1

    pub points_is : point_count w l p q ≡ length at.points
    points_is = number 4 (omega arith) ∙ common.2

    -- ---- lines, marks, listing

    drawn_at : Drawn at
    drawn_at = each_get_d Drawn ps q nothing drawn b

    drawn_pre : Each Drawn pre
    drawn_pre = each_of Drawn pre nothing (λ i k. rw (get_or-take q ps i nothing (omega (arith, pre_size))) (each_get_d Drawn ps i nothing drawn (omega (arith, pre_size))))

    module _ (f : Piece → List ℕ) (s : List ℕ) (stands : take (length (flat_map f ps)) s ≡ flat_map f ps)
        (before : length (flat_map f pre) ≡ length (lines_of pre)) (here : length (f at) ≡ length at.lines) where
      part_is : part_of w l p s q ≡ f at
      unfolding part_of
      part_is =
          ap₂ (λ (i k : ℕ). take k (drop i s)) first_is count_is
          ∙ sym (part_front (length (flat_map f ps)) s (length (lines_of pre)) (length at.lines) (omega (arith, split f)))
          ∙ ap (λ (t : List ℕ). take (length at.lines) (drop (length (lines_of pre)) t)) (stands ∙ ap (λ (t : List Piece). flat_map f t) whole)
          ∙ field_at l.counts pre at post f (length (lines_of pre)) (length at.lines) before here

      part_inside : first_member w l p q + member_count w l p q ≤ length s
      part_inside = omega (arith, first_is, count_is, split f, fits (length (flat_map f ps)) s (flat_map f ps) stands refl)

    pub members_are : members_at w l p q ≡ at.lines
    members_are = part_is (λ (r : Piece). r.lines) p.members h.members refl refl

    pub marks_are : marks_at w l p q ≡ at.marks
    marks_are = part_is (λ (r : Piece). r.marks) p.marks h.marks (marks_all pre drawn_pre) drawn_at.marked

    pub listing_are : listing_at w l p q ≡ at.listing
    listing_are = part_is (λ (r : Piece). r.listing) p.listing h.listing (listings_long pre drawn_pre) (listing_long at drawn_at)

    pub members_inside : first_member w l p q + member_count w l p q ≤ length p.members
    members_inside = part_inside (λ (r : Piece). r.lines) p.members h.members refl refl

    pub marks_inside : first_member w l p q + member_count w l p q ≤ length p.marks
    marks_inside = part_inside (λ (r : Piece). r.marks) p.marks h.marks (marks_all pre drawn_pre) drawn_at.marked

    pub listing_inside : first_member w l p q + member_count w l p q ≤ length p.listing
    listing_inside = part_inside (λ (r : Piece). r.listing) p.listing h.listing (listings_long pre drawn_pre) (listing_long at drawn_at)

    -- ---- the coordinates

    -- where they are the input's
    module _ (d : length at.lines ≡ 1) where
      pub source_own : source w l p q ≡ 0
      source_own = number 2 (omega arith) ∙ ap (λ (t : List ℕ). get_or t 2 0) (five_own l.counts (length (lines_of pre)) (length (flat_map copy pre)) at d)

      pub place_own : first_point w l p q ≡ place_of l.counts at
      place_own = number 3 (omega arith) ∙ ap (λ (t : List ℕ). get_or t 3 0) (five_own l.counts (length (lines_of pre)) (length (flat_map copy pre)) at d)

      module _ (own : Own w l.coordinates l.counts at) where
        numbers_own : numbers_at w l p q ≡ flat w at.points
        unfolding numbers_at
        numbers_own =
            ap (λ (s : List ℕ). take (point_count w l p q * w) (drop (first_point w l p q * w) s)) (source_none _ l.coordinates p.merged source_own)
            ∙ ap₂ (λ (i k : ℕ). take (k * w) (drop (i * w) l.coordinates)) place_own points_is
            ∙ own.same

        within_own : (first_point w l p q + point_count w l p q) * w ≤ length (named w l p q)
        within_own = rw (source_none _ l.coordinates p.merged source_own, place_own, points_is) own.within

    -- where they are copied
    module _ (d : length at.lines ≢ 1) where
      pub source_copied : source w l p q ≡ 1
      source_copied = number 2 (omega arith) ∙ ap (λ (t : List ℕ). get_or t 2 0) (five_copied l.counts (length (lines_of pre)) (length (flat_map copy pre)) at d)

      place_copied : first_point w l p q ≡ length (flat_map copy pre)
      place_copied = number 3 (omega arith) ∙ ap (λ (t : List ℕ). get_or t 3 0) (five_copied l.counts (length (lines_of pre)) (length (flat_map copy pre)) at d)

      room : length (flat_map copy pre) + length at.points ≤ length (flat_map copy ps)
      room = omega (arith, split copy, ap length (copy_all at d))

      room_numbers : length (flat_map copy pre) * w + length at.points * w ≤ length (flat_map copy ps) * w
      room_numbers = omega (arith, mul-le-mul_right w room, add-mul (length (flat_map copy pre)) (length at.points) w)

      numbers_copied : numbers_at w l p q ≡ flat w at.points
      unfolding numbers_at
      numbers_copied =
          ap (λ (s : List ℕ). take (point_count w l p q * w) (drop (first_point w l p q * w) s)) (source_one _ l.coordinates p.merged source_copied)
          ∙ ap₂ (λ (i k : ℕ). take (k * w) (drop (i * w) p.merged)) place_copied points_is
          ∙ sym (part_front (length (flat_map copy ps) * w) p.merged (length (flat_map copy pre) * w) (length at.points * w) room_numbers)
          ∙ ap (λ (t : List ℕ). take (length at.points * w) (drop (length (flat_map copy pre) * w) t))
          (h.merged ∙ ap (λ (t : List Piece). flat w (flat_map copy t)) whole)
          ∙ copy_at l.counts pre at post w (copied_yes at d)

      within_copied : (first_point w l p q + point_count w l p q) * w ≤ length (named w l p q)
      within_copied =
          rw (source_one _ l.coordinates p.merged source_copied, place_copied, points_is)
          (omega (
            arith,
            mul-le-mul_right w room,
            fits (length (flat_map copy ps) * w) p.merged _ h.merged (flat_length w (flat_map copy ps)),
          ))

    -- THE NUMBERS THAT RECORD q NAMES ARE THOSE OF PIECE q'S POINTS
    module _ (own : length at.lines ≡ 1 → Own w l.coordinates l.counts at) where
      pub numbers_at_lem : numbers_at w l p q ≡ flat w at.points
      numbers_at_lem = elim (ℕ_discrete (length at.lines) 1) [ yes d ↦ numbers_own d (own d) | no d ↦ numbers_copied d ]

      pub points_inside : (first_point w l p q + point_count w l p q) * w ≤ length (named w l p q)
      points_inside = elim (ℕ_discrete (length at.lines) 1) [ yes d ↦ within_own d (own d) | no d ↦ within_copied d ]
