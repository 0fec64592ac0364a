-- The call as a whole: the words of the pieces that stand are small, so that they are laid out as they stand; and behind them come the lines that pass
-- through, which is the book's layout of both together.
use Prim.Native.Nat.{ℕ, ◌+◌, ◌*◌, ◌^◌, ◌≤◌}
use mathlib.Core.Path.{sym, ap, ◌∙◌}
use mathlib.Core.List.{List, ◌++◌, flat_map}
use native.Mathlib.Omega.{arith}
use native.Mathlib.Nat.{zero-add}
use lib.ListN.{length, length-append}
use lib.Seq.{slice}
use Rattle.rules.specs.Chaining.{Piece}
use Rattle.rules.specs.Layout.{copy, six, table as table_of, laid_out, lent}
use Rattle.rules.specs.Refusals.{record_size}
use Rattle.rules.specs.Calls.{written}
use Rattle.chain_laws.proofs.Records.{rows_behind}
use Rattle.chain_laws.proofs.Lines.{flat_map_append}
use Rattle.point_slices.specs.Holds.{HoldsFrom}
use Rattle.point_slices.proofs.Laws.{from_length}
use Rattle.chain_pieces.specs.Held.{lines_of, marks_of, listing_of}
use Rattle.build_layout.specs.Laying.{passing_of, Narrow, SmallPieces, PiecesLayable, Rest, Rested, Layable, Outputs}
use Rattle.build_layout.proofs.Parts.{written_on}
use Rattle.build_layout.proofs.Numbers.{members_are, marks_are, listing_is, records_small, members_in, marks_in, listing_in, members_small, marks_small, listing_small}
use Rattle.chain_pieces.specs.Map.{listing_block, mark_block, member_block}

module _ {width : ℕ} {w : List ℕ} {n p l : ℕ} {coordinates copies counts kinds table members marks listing : List ℕ}
    (y : Layable width w n p l coordinates copies counts kinds table members marks listing) where
  abbrev qs : List Piece
  qs = y.ps

  abbrev rest : List Piece
  rest = passing_of width (lent coordinates counts y.groups kinds)

  pieces_fit : p + length rest ≤ n
  pieces_fit = omega (arith, y.pieces_all, y.number)

  members_fit : l + length rest ≤ n
  members_fit = omega (arith, y.members_all, y.listed)

  -- ---- what stands in w

  abbrev standing : SmallPieces width w n p l coordinates copies counts
  standing =
      record {
        ps = y.ps;
        held = y.held;
        number = y.number;
        listed = y.listed;
        members_low = y.members_low;
        points_few = y.points_few;
        few = y.few;
        small = y.small;
      }

  pub pieces_layable : PiecesLayable width w p coordinates copies table
  pieces_layable =
      record {
        n = n;
        counts = counts;
        ps = y.ps;
        two = y.adds.two;
        held = y.held;
        number = y.number;
        small = records_small standing;
        room = omega (arith, y.table_long, pieces_fit);
      }

  pub members_narrow : Narrow w (n * member_block) l (2 ^ 32) members 0
  members_narrow = record { inside = members_in standing; room = omega (arith, y.members_long, members_fit); below = members_small standing }

  pub marks_narrow : Narrow w (n * mark_block) l (2 ^ 8) marks 0
  marks_narrow = record { inside = marks_in standing; room = omega (arith, y.marks_long, members_fit); below = marks_small standing }

  pub listing_narrow : Narrow w (n * listing_block) l (2 ^ 32) listing 0
  listing_narrow = record { inside = listing_in standing; room = omega (arith, y.listing_long, members_fit); below = listing_small standing }

  -- ---- and the lines that pass through fit behind it

  module _ {table₁ members₁ marks₁ listing₁ : List ℕ}
      (f : (z : PiecesLayable width w p coordinates copies table) → HoldsFrom table₁ table 0 (p * record_size) (table_of z.counts 0 0 z.ps))
      (b : HoldsFrom members₁ members 0 l (slice (n * member_block) (n * member_block + l) w))
      (d : HoldsFrom marks₁ marks 0 l (slice (n * mark_block) (n * mark_block + l) w))
      (e : HoldsFrom listing₁ listing 0 l (slice (n * listing_block) (n * listing_block + l) w))
    where
      a : HoldsFrom table₁ table 0 (p * record_size) (table_of counts 0 0 qs)
      unfolding pieces_layable
      a = f pieces_layable

      table_fits : p * record_size ≤ length table
      table_fits = omega (arith, y.table_long, pieces_fit)

      members_fits : l ≤ length members
      members_fits = omega (arith, y.members_long, members_fit)

      marks_fits : l ≤ length marks
      marks_fits = omega (arith, y.marks_long, members_fit)

      listing_fits : l ≤ length listing
      listing_fits = omega (arith, y.listing_long, members_fit)

      pub rest_fits : Rest width coordinates counts kinds p l table₁ members₁ marks₁ listing₁
      rest_fits =
          record {
            groups = y.groups;
            few = omega (arith, y.few, y.counts_long);
            kinds_long = omega (arith, y.kinds_long, y.counts_long);
            adds = y.adds;
            small = y.small;
            members_few = omega (arith, members_fit, y.few);
            table_fits = omega (arith, from_length a (rw zero-add table_fits), y.table_long, pieces_fit);
            members_fit = omega (arith, from_length b (rw zero-add members_fits), y.members_long, members_fit);
            marks_fit = omega (arith, from_length d (rw zero-add marks_fits), y.marks_long, members_fit);
            listing_fit = omega (arith, from_length e (rw zero-add listing_fits), y.listing_long, members_fit);
          }

      pub outputs : {table₂ members₂ marks₂ listing₂ : List ℕ} {r : ℕ}
          → ((z : Rest width coordinates counts kinds p l table₁ members₁ marks₁ listing₁)
          → Rested counts p l (passing_of width (lent coordinates counts z.groups kinds)) table₂ table₁ members₂ members₁ marks₂ marks₁ listing₂ listing₁ r)
          → Outputs (laid_out width counts (y.ps ++ passing_of width (lent coordinates counts y.groups kinds)))
          table₂ table members₂ members marks₂ marks listing₂ listing r
      unfolding laid_out rest_fits
      outputs {table₂} {members₂} {marks₂} {listing₂} {r} g =
          let s : Rested counts p l rest table₂ table₁ members₂ members₁ marks₂ marks₁ listing₂ listing₁ r = g rest_fits in
          record {
            number = omega (arith, s.number, y.number, length-append qs rest);
            records =
                written_on a (s.records (length (flat_map copy qs))) table_fits
                ∙ ap (λ (t : List ℕ). written t table)
                (ap (λ (m : ℕ). table_of counts 0 0 qs ++ table_of counts m (length (flat_map copy qs)) rest) y.listed ∙ sym (rows_behind (six counts) qs rest));
            listed =
                written_on b s.listed members_fits
                ∙ ap (λ (t : List ℕ). written t members)
                (ap (λ (t : List ℕ). t ++ lines_of rest) (members_are standing) ∙ sym (flat_map_append (λ (p : Piece). p.lines) qs rest));
            turned =
                written_on d s.turned marks_fits
                ∙ ap (λ (t : List ℕ). written t marks)
                (ap (λ (t : List ℕ). t ++ marks_of rest) (marks_are standing) ∙ sym (flat_map_append (λ (p : Piece). p.marks) qs rest));
            passed =
                written_on e s.passed listing_fits
                ∙ ap (λ (t : List ℕ). written t listing)
                (ap (λ (t : List ℕ). t ++ listing_of rest) (listing_is standing) ∙ sym (flat_map_append (λ (p : Piece). p.listing) qs rest));
          }
