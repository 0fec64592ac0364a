-- Reading a piece that is held: the words of its record say where its members, marks, listing and coordinates stand, and there they stand.
-- It is true because that is what holding is, of the block's words, and these are words of the workspace.
use Prim.Native.Nat.{ℕ, ◌+◌, ◌*◌, ◌≤◌, ◌<◌}
use mathlib.Core.Path.{◌≡◌, refl, sym, ap, ap₂, subst, ◌∙◌}
use mathlib.Core.Logic.{◌≢◌}
use mathlib.Core.Bool.{true, false}
use mathlib.Core.List.{List, [], ◌∷◌}
use native.Mathlib.Omega.{arith}
use native.Mathlib.Decide.{ℕ_discrete}
use native.Mathlib.Nat.{mul-le-mul_left, mul-suc}
use lib.ListN.{length, get_or, take, drop}
use lib.Seq.{slice, get_or-take, get_or-drop, take-take, drop-drop}
use borrow.Author.Tests.{eq-eqb, ne_eqb}
use Rattle.rules.specs.Plane.{points, flat}
use Rattle.rules.specs.Chaining.{Piece, nothing}
use Rattle.rules.specs.Layout.{lent, copied, copy, five}
use Rattle.rules.specs.Refusals.{piece_size, source_of}
use Rattle.rules.specs.Pieces.{part_of, numbers_at}
use Rattle.point_numbers.proofs.Points.{points_flat}
use Rattle.point_slices.proofs.Laws.{slice_part, rest_slice}
use Rattle.chain_pieces.specs.Held.{record_of, coordinates_at, Recorded, place_of, block_pieces, PieceStands, Held}
use Rattle.chain_pieces.specs.Map.{join_block, listing_block, mark_block, member_block}

-- ---- the five numbers of a piece

pub copied_no : (p : Piece) → length p.lines ≡ 1 → copied p ≡ false
unfolding copied
copied_no p e = rw (eq-eqb _ _ e, copied)

pub copied_yes : (p : Piece) → length p.lines ≢ 1 → copied p ≡ true
unfolding copied
copied_yes p e = rw (ne_eqb _ _ e, copied)

-- a piece of one line is not copied, and any other is
pub copy_none : (p : Piece) → length p.lines ≡ 1 → copy p ≡ []
unfolding copy
copy_none p e = rw (copied_no p e, copy)

pub copy_all : (p : Piece) → length p.lines ≢ 1 → copy p ≡ p.points
unfolding copy
copy_all p e = rw (copied_yes p e, copy)

pub five_own : (counts : List ℕ) (m c : ℕ) (p : Piece) → length p.lines ≡ 1
    → five counts m c p ≡ m ∷ length p.lines ∷ 0 ∷ place_of counts p ∷ length p.points ∷ []
unfolding five
five_own counts m c p e = rw (copied_no p e, five)

pub five_copied : (counts : List ℕ) (m c : ℕ) (p : Piece) → length p.lines ≢ 1
    → five counts m c p ≡ m ∷ length p.lines ∷ 1 ∷ c ∷ length p.points ∷ []
unfolding five
five_copied counts m c p e = rw (copied_yes p e, five)

-- what the two have in common
pub five_common : (counts : List ℕ) (m c : ℕ) (p : Piece)
    → (get_or (five counts m c p) 0 0 ≡ m) × (get_or (five counts m c p) 1 0 ≡ length p.lines) × (get_or (five counts m c p) 4 0 ≡ length p.points)
five_common counts m c p =
    elim (ℕ_discrete (length p.lines) 1) [
      | yes d ↦ rw (five_own counts m c p d) (refl, refl, refl)
      | no d ↦ rw (five_copied counts m c p d) (refl, refl, refl)
    ]

-- an element of a part
pub get_d_part : (a k : ℕ) (l : List ℕ) (i : ℕ) → i < k → get_or (slice a (a + k) l) i 0 ≡ get_or l (a + i) 0
get_d_part a k l i h = ap (λ (t : List ℕ). get_or t i 0) (slice_part a k l) ∙ get_or-take k (drop a l) i 0 h ∙ get_or-drop a l i 0

-- a part of a beginning, and a part of a part
pub part_front : (m : ℕ) (l : List ℕ) (i k : ℕ) → i + k ≤ m → take k (drop i (take m l)) ≡ take k (drop i l)
part_front m l i k h = sym (slice_part i k (take m l)) ∙ ap (drop i) (take-take (i + k) m l h) ∙ slice_part i k l

pub part_part : (a m : ℕ) (l : List ℕ) (i k : ℕ) → i + k ≤ m → take k (drop i (slice a (a + m) l)) ≡ take k (drop (a + i) l)
part_part a m l i k h =
    ap (λ (t : List ℕ). take k (drop i t)) (slice_part a m l) ∙ part_front m (drop a l) i k h ∙ ap (take k) (drop-drop i a l)

-- ---- a piece that is held

-- the block of n lines at `base`
abbrev pub block_at : List ℕ → ℕ → ℕ → List ℕ
block_at w base n = take (n * join_block) (drop base w)

block_word : (w : List ℕ) (base n i : ℕ) → i < n * join_block → get_or (block_at w base n) i 0 ≡ get_or w (base + i) 0
block_word w base n i h = get_or-take (n * join_block) (drop base w) i 0 h ∙ get_or-drop base w i 0

-- a part that begins f words behind one of the blocks within, of which each line has a word
pub block_part : (w : List ℕ) (base n block f k : ℕ) → block < join_block → f + k ≤ n
    → slice (base + n * block + f) (base + n * block + f + k) w ≡ take k (drop f (drop (n * block) (block_at w base n)))
block_part w base n block f k c h =
    let fits : n * block + f + k ≤ n * join_block = omega (arith, mul-le-mul_left n c, mul-suc n block) in
    let e : base + (n * block + f) ≡ base + n * block + f = omega arith in
    slice_part (base + n * block + f) k w
    ∙ ap (λ (i : ℕ). take k (drop i w)) (sym e)
    ∙ ap (take k) (sym (drop-drop (n * block + f) base w))
    ∙ sym (part_front (n * join_block) (drop base w) (n * block + f) k fits)
    ∙ ap (take k) (sym (drop-drop f (n * block) (block_at w base n)))

module _ (width : ℕ) (w : List ℕ) (base n : ℕ) (input copies counts : List ℕ) (ps : List Piece) (h : Held width w base n input copies counts ps) (q : ℕ) (b : q < length ps) where
  abbrev p : Piece
  p = get_or ps q nothing

  abbrev at : ℕ
  at = record_of base q

  pub record_inside : at + piece_size ≤ base + n * member_block
  record_inside = omega (arith, h.few)

  -- a word of the record
  word : (i : ℕ) → i < piece_size → get_or w (at + i) 0 ≡ get_or (block_at w base n) (q * piece_size + i) 0
  word i c =
      let e : base + (q * piece_size + i) ≡ at + i = omega arith in
      sym (block_word w base n (q * piece_size + i) (omega (arith, h.few)) ∙ ap (λ (k : ℕ). get_or w k 0) e)

  first_word : get_or w at 0 ≡ get_or (block_at w base n) (q * piece_size) 0
  first_word = sym (block_word w base n (q * piece_size) (omega (arith, h.few)))

  pub member_count_lem : get_or w (at + 1) 0 ≡ length p.lines
  member_count_lem = word 1 (omega arith) ∙ (h.stands q b).member_count_lem

  pub point_count_lem : get_or w (at + 4) 0 ≡ length p.points
  point_count_lem = word 4 (omega arith) ∙ (h.stands q b).point_count_lem

  -- ---- the members, the marks and the listing

  within_lines : get_or w at 0 + get_or w (at + 1) 0 ≤ n
  within_lines = omega (arith, first_word, word 1 (omega arith), (h.stands q b).inside)

  pub members_inside : base + n * member_block + get_or w at 0 + get_or w (at + 1) 0 ≤ base + n * mark_block
  members_inside = omega (arith, within_lines)

  -- what stands for the piece in a block that has a number for each line
  part_is : (block : ℕ) → block < join_block
      → slice (base + n * block + get_or w at 0) (base + n * block + get_or w at 0 + get_or w (at + 1) 0) w
      ≡ part_of width (lent input counts [] []) (block_pieces n (block_at w base n) copies (length ps)) (drop (n * block) (block_at w base n)) q
  unfolding part_of
  part_is block c =
      block_part w base n block (get_or w at 0) (get_or w (at + 1) 0) c within_lines
      ∙ ap₂ (λ (i k : ℕ). take k (drop i (drop (n * block) (block_at w base n)))) first_word (word 1 (omega arith))

  pub members_are : slice (base + n * member_block + get_or w at 0) (base + n * member_block + get_or w at 0 + get_or w (at + 1) 0) w ≡ p.lines
  members_are = part_is member_block (omega arith) ∙ (h.stands q b).members

  pub marks_are : slice (base + n * mark_block + get_or w at 0) (base + n * mark_block + get_or w at 0 + get_or w (at + 1) 0) w ≡ p.marks
  marks_are = part_is mark_block (omega arith) ∙ (h.stands q b).marks

  pub listing_is : slice (base + n * listing_block + get_or w at 0) (base + n * listing_block + get_or w at 0 + get_or w (at + 1) 0) w ≡ p.listing
  listing_is = part_is listing_block (omega arith) ∙ (h.stands q b).listing

  -- ---- the coordinates

  pub first_own : length p.lines ≡ 1 → get_or w (at + 3) 0 ≡ place_of counts p
  first_own d = word 3 (omega arith) ∙ (h.stands q b).place d

  -- THE COORDINATES THAT THE PIECE NAMES ARE THE PIECE'S
  pub coordinates_are : coordinates_at width w at input copies ≡ flat width p.points
  unfolding coordinates_at numbers_at
  coordinates_are =
      ap (λ (s : ℕ). take (get_or w (at + 4) 0 * width) (drop (get_or w (at + 3) 0 * width) (source_of s input copies))) (word 2 (omega arith))
      ∙ ap₂ (λ (i k : ℕ). take (k * width) (drop (i * width) (source_of (get_or (block_at w base n) (q * piece_size + 2) 0) input copies))) (word 3 (omega arith)) (word 4 (omega arith))
      ∙ (h.stands q b).numbers

  pub points_are : 2 ≤ width → points width (coordinates_at width w at input copies) ≡ p.points
  points_are two = ap (points width) coordinates_are ∙ points_flat width p.points (omega arith) (h.wide q b)

  pub recorded : Recorded width w at input copies
  recorded =
      record {
        inside = omega (arith, record_inside, h.room);
        within = rw (word 2 (omega arith), word 3 (omega arith), word 4 (omega arith)) (h.stands q b).within;
      }

-- ---- pieces whose block stays stand as they did

pub held_block : (width : ℕ) (w' w : List ℕ) (base' base n : ℕ) (input copies counts : List ℕ) (ps : List Piece) → take (n * join_block) (drop base' w') ≡ take (n * join_block) (drop base w)
    → base' + n * join_block ≤ length w' → Held width w base n input copies counts ps → Held width w' base' n input copies counts ps
held_block width w' w base' base n input copies counts ps e r h =
    record {
      few = h.few;
      listed = h.listed;
      room = r;
      stands = λ q b.
          subst (λ (t : List ℕ). PieceStands width n (lent input counts [] []) (block_pieces n t copies (length ps)) q (get_or ps q nothing)) (sym e) (h.stands q b);
      drawn = h.drawn;
      full = h.full;
      own = h.own;
      wide = h.wide;
    }

-- beyond what was written
pub held_beyond : (width : ℕ) (w' w : List ℕ) (base n k : ℕ) (input copies counts : List ℕ) (ps : List Piece) → drop k w' ≡ drop k w → length w' ≡ length w → k ≤ base
    → Held width w base n input copies counts ps → Held width w' base n input copies counts ps
held_beyond width w' w base n k input copies counts ps e z c h =
    held_block width w' w base base n input copies counts ps
    (sym (slice_part base (n * join_block) w') ∙ rest_slice w' w k e base (n * join_block) c ∙ slice_part base (n * join_block) w)
    (omega (arith, h.room)) h
