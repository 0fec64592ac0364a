-- Marks turned one after another: after i turns the first i stand turned; those that are still to be read lie beyond. And the lines of a piece, each kind
-- written in its block and read beyond all of them, so that it is read as it was.
use Prim.Native.Nat.{ℕ, zero, suc, ◌+◌, ◌*◌, ◌%◌, ◌≤◌, ◌<◌}
use mathlib.Core.Path.{◌≡◌, refl, sym, ap, ◌∙◌}
use mathlib.Core.List.{List, [], ◌∷◌, map}
use native.Mathlib.Omega.{arith}
use lib.ListN.{length, get_or, take, set, length-map}
use lib.Seq.{slice}
use Rattle.chain_laws.proofs.Counts.{each_get_d}
use Rattle.point_slices.specs.Holds.{HoldsFrom}
use Rattle.point_slices.proofs.Laws.{read_beyond, copy_more, copy_done, part_length, from_length, slice_beyond}
use Rattle.chain_merging.specs.Emit.{turned_by, passed_by, Turnable, Listable, Members}
use Rattle.chain_pieces.specs.Map.{listing_block, mark_block, member_block}

get_d_each : (f : ℕ → ℕ) (l : List ℕ) (i : ℕ) → i < length l → get_or (map f l) i 0 ≡ f (get_or l i 0)
get_d_each f [] i h = absurd (omega arith)
get_d_each f (a ∷ l) zero h = refl
get_d_each f (a ∷ l) (suc i) h = get_d_each f l i (omega arith)

module _ (d w : List ℕ) (from at count side i : ℕ) (y : Turnable w from at count side)
    (h : HoldsFrom d w at i (take i (turned_by side (slice from (from + count) w))))
  where
    abbrev marks : List ℕ
    marks = slice from (from + count) w

    marks_size : length marks ≡ count
    marks_size = part_length from count w y.inside

    turned_size : length (turned_by side marks) ≡ count
    turned_size = length-map marks (λ mark. (mark + side) % 2) ∙ marks_size

    module _ (b : i < count) where
      read : get_or d (from + i) 0 ≡ get_or (slice from (from + count) w) i 0
      read = read_beyond from count i h y.before y.inside (omega arith) b

      -- the sum is small
      pub mark_low : get_or d (from + i) 0 ≤ 1
      mark_low = omega (arith, read, each_get_d (λ x. x ≤ 1) marks i 0 y.low (omega (arith, marks_size)))

      pub turn_more : HoldsFrom (set d (at + i) ((get_or d (from + i) 0 + side) % 2)) w at (i + 1) (take (i + 1) (turned_by side (slice from (from + count) w)))
      turn_more =
          let e : (get_or d (from + i) 0 + side) % 2 ≡ get_or (turned_by side marks) i 0 =
          ap (λ (x : ℕ). (x + side) % 2) read ∙ sym (get_d_each (λ mark. (mark + side) % 2) marks i (omega (arith, marks_size))) in
          rw e (copy_more d w (turned_by side marks) at i h (omega (arith, turned_size, y.before, y.inside)) (omega (arith, turned_size)))

    pub turn_done : i ≡ count → HoldsFrom d w at count (turned_by side (slice from (from + count) w))
    turn_done e = copy_done d w (turned_by side marks) at i count h e turned_size

-- ---- members, marks and listing, one after another

module _ (w w₁ : List ℕ) (n from at count side : ℕ) (y : Listable w n from at count side)
    (members : HoldsFrom w₁ w (at + n * member_block) count (slice (from + n * member_block) (from + n * member_block + count) w))
  where
    in_one : at + n * member_block + count ≤ length w
    in_one = omega (arith, y.fits, y.beyond, y.inside)

    size_one : length w₁ ≡ length w
    size_one = from_length members in_one

    -- what stands beyond the front is as it was
    past_one : (block : ℕ) → slice (from + n * block) (from + n * block + count) w₁ ≡ slice (from + n * block) (from + n * block + count) w
    past_one block = slice_beyond members in_one (from + n * block) count (omega (arith, y.fits, y.beyond))

    pub turnable : Turnable w₁ (from + n * mark_block) (at + n * mark_block) count side
    turnable =
        record {
          before = omega (arith, y.fits, y.beyond);
          inside = omega (arith, size_one, y.inside);
          one = y.one;
          low = rw (past_one mark_block) y.low;
        }

    module _ (w₂ : List ℕ)
        (marks : HoldsFrom w₂ w₁ (at + n * mark_block) count (turned_by side (slice (from + n * mark_block) (from + n * mark_block + count) w₁)))
      where
        in_two : at + n * mark_block + count ≤ length w₁
        in_two = omega (arith, size_one, y.fits, y.beyond, y.inside)

        pub size_two : length w₂ ≡ length w
        size_two = from_length marks in_two ∙ size_one

        past_two : slice (from + n * listing_block) (from + n * listing_block + count) w₂ ≡ slice (from + n * listing_block) (from + n * listing_block + count) w
        past_two = slice_beyond marks in_two (from + n * listing_block) count (omega (arith, y.fits, y.beyond)) ∙ past_one listing_block

        pub members_many : (w₃ : List ℕ)
            → HoldsFrom w₃ w₂ (at + n * listing_block) count (passed_by side (slice (from + n * listing_block) (from + n * listing_block + count) w₂))
            → Members w₃ w n from at count side
        members_many w₃ listing =
            record {
              copied = w₁;
              marked = w₂;
              members = members;
              marks = rw (past_one mark_block) at marks;
              listing = rw past_two at listing;
            }
