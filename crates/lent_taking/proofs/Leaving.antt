-- What leaving the pieces asks of the words that are copied, and that the copies are the book's.
use Prim.Native.Nat.{ℕ, ◌+◌, ◌*◌, ◌^◌, ◌≤◌}
use mathlib.Core.Path.{◌≡◌, ap, ◌∙◌}
use mathlib.Core.List.{List, ◌++◌}
use native.Mathlib.Omega.{arith}
use native.Mathlib.Nat.{zero-add}
use lib.ListN.{drop}
use lib.Seq.{slice}
use Rattle.rules.specs.Refusals.{piece_size}
use Rattle.rules.specs.Calls.{written}
use Rattle.chain_pieces.specs.Map.{listing_block, mark_block, member_block}
use Rattle.point_slices.specs.Holds.{HoldsFrom}
use Rattle.build_layout.specs.Laying.{Narrow}
use Rattle.build_layout.proofs.Numbers.{records_are, members_are, marks_are, listing_is, records_small, members_small, marks_small, listing_small, records_in, members_in, marks_in, listing_in}
use Rattle.lent_taking.specs.Leaving.{Leavable, PiecesLeft}

holds_written : {l' l x : List ℕ} {k : ℕ} → HoldsFrom l' l 0 k x → l' ≡ written x l
unfolding written
holds_written {l'} {l} {x} {k} h = h.list ∙ ap (λ (i : ℕ). x ++ drop i l) (zero-add k ∙ h.count)

module _ {w : List ℕ} {n p m : ℕ} {pieces members marks listing : List ℕ} (y : Leavable w n p m pieces members marks listing) where
  few : (p ≤ n) × (m ≤ n)
  few = (omega (arith, y.small.number, y.small.held.few), omega (arith, y.small.listed, y.small.held.listed))

  pub records_narrow : Narrow w 0 (p * piece_size) (2 ^ 32) pieces 0
  records_narrow =
      record {
        inside = rw zero-add (records_in y.small);
        room = omega (arith, y.pieces_long, few.0);
        below = λ i h. rw zero-add (records_small y.small i h);
      }

  pub members_narrow : Narrow w (n * member_block) m (2 ^ 32) members 0
  members_narrow = record { inside = members_in y.small; room = omega (arith, y.members_long, few.1); below = members_small y.small }

  pub marks_narrow : Narrow w (n * mark_block) m (2 ^ 8) marks 0
  marks_narrow = record { inside = marks_in y.small; room = omega (arith, y.marks_long, few.1); below = marks_small y.small }

  pub listing_narrow : Narrow w (n * listing_block) m (2 ^ 32) listing 0
  listing_narrow = record { inside = listing_in y.small; room = omega (arith, y.listing_long, few.1); below = listing_small y.small }

  pub pieces_left : {pieces' members' marks' listing' : List ℕ}
      → HoldsFrom pieces' pieces 0 (p * piece_size) (slice 0 (0 + p * piece_size) w)
      → HoldsFrom members' members 0 m (slice (n * member_block) (n * member_block + m) w)
      → HoldsFrom marks' marks 0 m (slice (n * mark_block) (n * mark_block + m) w)
      → HoldsFrom listing' listing 0 m (slice (n * listing_block) (n * listing_block + m) w)
      → PiecesLeft y.counts y.small.ps pieces' pieces members' members marks' marks listing' listing
  pieces_left a b c d =
      record {
        records = holds_written a ∙ ap (λ (t : List ℕ). written t pieces) (records_are y.small);
        listed = holds_written b ∙ ap (λ (t : List ℕ). written t members) (members_are y.small);
        turned = holds_written c ∙ ap (λ (t : List ℕ). written t marks) (marks_are y.small);
        passed = holds_written d ∙ ap (λ (t : List ℕ). written t listing) (listing_is y.small);
      }
