-- Pieces that stand one after another: their records, members, marks and listing are the book's, and all are small numbers, so that each is read narrower than
-- it stands.
use Prim.Native.Nat.{ℕ, ◌+◌, ◌*◌, ◌^◌, ◌≤◌, ◌<◌}
use mathlib.Core.Path.{◌≡◌, sym, ap, ap₂, ◌∙◌}
use mathlib.Core.List.{List}
use native.Mathlib.Omega.{arith}
use native.Mathlib.Nat.{zero-add}
use lib.ListN.{length, get_or}
use lib.Seq.{slice}
use Rattle.rules.specs.Chaining.{Piece}
use Rattle.rules.specs.Layout.{piece_table}
use Rattle.rules.specs.Refusals.{most_lines, most_points, piece_size}
use Rattle.chain_laws.proofs.Counts.{Each, each_get_d}
use Rattle.chain_laws.proofs.Drawn.{Low, Drawn, marks_all, low_all, listing_all, listings_long}
use Rattle.point_slices.proofs.Laws.{part_length}
use Rattle.chain_pieces.specs.Held.{lines_of, marks_of, listing_of}
use Rattle.chain_pieces.specs.Map.{join_block, listing_block, mark_block, member_block}
use Rattle.chain_pieces.proofs.Reading.{get_d_part}
use Rattle.chain_pieces.proofs.Packed.{each_drawn}
use Rattle.build_layout.specs.Laying.{SmallPieces}
use Rattle.build_layout.proofs.Small.{table_low, low_same}

-- a part of small numbers
part_small : (w : List ℕ) (from k most b : ℕ) (out : List ℕ) → slice from (from + k) w ≡ out → Low b out → b < most → from + k ≤ length w
    → (i : ℕ) → i < k → get_or w (from + i) 0 < most
part_small w from k most b out e a h i j g =
    omega (
      arith,
      get_d_part from k w j g,
      ap (λ (l : List ℕ). get_or l j 0) e,
      each_get_d (λ (x : ℕ). x ≤ b) out j 0 a (omega (arith, ap length e, part_length from k w i)),
    )

module _ {width : ℕ} {w : List ℕ} {n p l : ℕ} {coordinates copies counts : List ℕ} (y : SmallPieces width w n p l coordinates copies counts) where
  abbrev qs : List Piece
  qs = y.ps

  pieces_few : p ≤ n
  pieces_few = omega (arith, y.number, y.held.few)

  members_few : l ≤ n
  members_few = omega (arith, y.listed, y.held.listed)

  -- ---- what stands in w

  pub records_are : slice 0 (0 + p * piece_size) w ≡ piece_table counts 0 0 qs
  records_are = ap (λ (i : ℕ). slice 0 (0 + i * piece_size) w) y.number ∙ y.held.records

  pub members_are : slice (n * member_block) (n * member_block + l) w ≡ lines_of qs
  members_are = ap₂ (λ (i j : ℕ). slice i (i + j) w) (sym (zero-add (n * member_block))) y.listed ∙ y.held.members

  drawn : Each Drawn qs
  drawn = each_drawn y.held

  pub marks_are : slice (n * mark_block) (n * mark_block + l) w ≡ marks_of qs
  marks_are = ap₂ (λ (i j : ℕ). slice i (i + j) w) (sym (zero-add (n * mark_block))) (y.listed ∙ sym (marks_all qs drawn)) ∙ y.held.marks

  pub listing_is : slice (n * listing_block) (n * listing_block + l) w ≡ listing_of qs
  listing_is = ap₂ (λ (i j : ℕ). slice i (i + j) w) (sym (zero-add (n * listing_block))) (y.listed ∙ sym (listings_long qs drawn)) ∙ y.held.listing

  -- ---- it is small

  pub records_small : (i : ℕ) → i < p * piece_size → get_or w i 0 < 2 ^ 32
  records_small i h =
      rw zero-add at
      (part_small w 0 (p * piece_size) (2 ^ 32) most_points (piece_table counts 0 0 qs) records_are
      (table_low most_points counts (omega arith) y.small 0 0 qs (omega (arith, y.held.listed, y.few)) (omega (arith, y.points_few)))
      (omega arith) (omega (arith, y.held.room, pieces_few)) i h)

  pub records_in : p * piece_size ≤ length w
  records_in = omega (arith, y.held.room, pieces_few)

  -- a block that has a number for each member
  block_in : (block : ℕ) → n * block + n ≤ n * join_block → n * block + l ≤ length w
  block_in block h = omega (arith, y.held.room, members_few)

  pub members_in : n * member_block + l ≤ length w
  members_in = block_in member_block (omega arith)

  pub marks_in : n * mark_block + l ≤ length w
  marks_in = block_in mark_block (omega arith)

  pub listing_in : n * listing_block + l ≤ length w
  listing_in = block_in listing_block (omega arith)

  pub members_small : (i : ℕ) → i < l → get_or w (n * member_block + i) 0 < 2 ^ 32
  members_small = part_small w (n * member_block) l (2 ^ 32) most_lines (lines_of qs) members_are y.members_low (omega arith) members_in

  pub marks_small : (i : ℕ) → i < l → get_or w (n * mark_block + i) 0 < 2 ^ 8
  marks_small = part_small w (n * mark_block) l (2 ^ 8) 1 (marks_of qs) marks_are (low_all qs drawn) (omega arith) marks_in

  pub listing_small : (i : ℕ) → i < l → get_or w (n * listing_block + i) 0 < 2 ^ 32
  listing_small =
      part_small w (n * listing_block) l (2 ^ 32) most_lines (listing_of qs) listing_is
      (low_same most_lines (lines_of qs) (listing_of qs) (listing_all qs drawn) y.members_low) (omega arith) listing_in
