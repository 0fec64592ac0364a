-- Pieces that stand one after another are held: each record names its piece. Only the layout asks for more than that.
use Prim.Native.Nat.{ℕ, ◌+◌, ◌*◌, ◌≤◌, ◌<◌}
use mathlib.Core.Path.{◌≡◌, refl, sym, ap, ◌∙◌}
use mathlib.Core.List.{List, []}
use native.Mathlib.Omega.{arith}
use lib.ListN.{length, get_or, take, drop}
use lib.Seq.{slice, take-take}
use Rattle.rules.specs.Chaining.{Piece, nothing}
use Rattle.rules.specs.Layout.{Lines, lent}
use Rattle.rules.specs.Refusals.{piece_size}
use Rattle.rules.specs.Pieces.{LentPieces}
use Rattle.chain_laws.proofs.Counts.{Each, each_of}
use Rattle.chain_laws.proofs.Drawn.{Drawn, marks_all, listings_long}
use Rattle.point_slices.proofs.Laws.{slice_part}
use Rattle.chain_pieces.specs.Held.{lines_of, marks_of, listing_of, block_pieces, PieceStands, Held, Packed}
use Rattle.chain_pieces.specs.Compact.{Compact}
use Rattle.chain_pieces.specs.Map.{join_block, listing_block, mark_block, member_block}
use Rattle.chain_pieces.proofs.Compact.{first_is, split_lines, count_is, points_is, members_are, marks_are, listing_are, place_own, numbers_at_lem, points_inside}
use Rattle.chain_pieces.proofs.Reading.{block_at, block_part}

-- a mark for each line, and a place in the listing
pub each_drawn : {width : ℕ} {w : List ℕ} {base n : ℕ} {input copies counts : List ℕ} {ps : List Piece} → Packed width w base n input copies counts ps → Each Drawn ps
each_drawn {ps = ps} h = each_of Drawn ps nothing h.drawn

module _ (width : ℕ) (w : List ℕ) (base n : ℕ) (input copies counts : List ℕ) (ps : List Piece) (h : Packed width w base n input copies counts ps) where
  abbrev lines : Lines
  lines = lent input counts [] []

  abbrev block : LentPieces
  block = block_pieces n (block_at w base n) copies (length ps)

  -- what stands at the front of a block that has a number for each line
  front : (k : ℕ) (l : List ℕ) → k < join_block → length l ≤ n → slice (base + n * k) (base + n * k + length l) w ≡ l → take (length l) (drop (n * k) (block_at w base n)) ≡ l
  front k l c b e =
      let z : base + n * k + 0 ≡ base + n * k = omega arith in
      sym (block_part w base n k 0 (length l) c (omega arith)) ∙ ap (λ (i : ℕ). slice i (i + length l) w) z ∙ e

  compact : Compact width counts ps block
  compact =
      record {
        number = refl;
        records =
            take-take (length ps * piece_size) (n * join_block) (drop base w) (omega (arith, h.few))
            ∙ sym (slice_part base (length ps * piece_size) w)
            ∙ h.records;
        members = front member_block (lines_of ps) (omega arith) h.listed h.members;
        marks = front mark_block (marks_of ps) (omega arith) (omega (arith, marks_all ps (each_drawn h), h.listed)) h.marks;
        listing = front listing_block (listing_of ps) (omega arith) (omega (arith, listings_long ps (each_drawn h), h.listed)) h.listing;
        merged = h.copied;
      }

  stands : (q : ℕ) → q < length ps → PieceStands width n lines block q (get_or ps q nothing)
  stands q b =
      record {
        inside = omega (
          arith,
          first_is width lines block ps compact (each_drawn h) q b,
          count_is width lines block ps compact (each_drawn h) q b,
          split_lines width lines block ps compact (each_drawn h) q b,
          h.listed,
        );
        member_count_lem = count_is width lines block ps compact (each_drawn h) q b;
        point_count_lem = points_is width lines block ps compact (each_drawn h) q b;
        members = members_are width lines block ps compact (each_drawn h) q b;
        marks = marks_are width lines block ps compact (each_drawn h) q b;
        listing = listing_are width lines block ps compact (each_drawn h) q b;
        place = place_own width lines block ps compact (each_drawn h) q b;
        within = points_inside width lines block ps compact (each_drawn h) q b (h.own q b);
        numbers = numbers_at_lem width lines block ps compact (each_drawn h) q b (h.own q b);
      }

  -- PIECES THAT COME OUT OF A ROUND GO INTO ANOTHER
  pub packed_held : Held width w base n input copies counts ps
  packed_held =
      record { few = h.few; listed = h.listed; room = h.room; stands = stands; drawn = h.drawn; full = h.full; own = h.own; wide = h.wide }
