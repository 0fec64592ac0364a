-- Between two entries the members, marks and listing of those before stand at the front (`Listing`).
use Prim.Native.Nat.{ℕ, ◌+◌, ◌%◌, ◌≤◌}
use mathlib.Core.Path.{◌≡◌}
use native.Mathlib.Omega.{arith}
use lib.ListN.{length, get_or}
use Rattle.rules.specs.Walking.{piece_of}
use Rattle.rules.specs.Refusals.{piece_size}
use Rattle.chain_pieces.specs.Held.{record_of}
use Rattle.chain_merging.specs.Emit.{Listable}
use Rattle.chain_merging.proofs.Listing.{Listing, listing_start, listing_done, listing_record, listing_listable, listing_step}
use Rattle.chain_merging.proofs.list_pieces.Goals as goal
use Rattle.chain_merging.proofs.list_pieces.Goals.{At-loop-k, In-loop-k}

listing : (l : At-loop-k)
    → let a = l.args in Listing a.w.now a.n a.old a.entries a.m l.requires l.loop-k.w l.loop-k.r l.loop-k.k
listing l = l.loop-k.invariant l.requires

-- in a turn: the record of the piece that is entered, its lines, and the room for them
module _ (i : In-loop-k) where
  abbrev l : At-loop-k
  l = (goal.at.In-loop-k i).At-loop-k

  abbrev at : ℕ
  at = record_of i.args.old (piece_of (get_or i.loop-k.w (i.args.entries + i.loop-k.k) 0))

  in_record : (at + piece_size ≤ length i.loop-k.w) × (length i.loop-k.w ≡ length i.args.w.now)
  in_record = (
    listing_record i.args.w.now i.args.n i.args.old i.args.entries i.args.m i.requires i.loop-k.w i.loop-k.r i.loop-k.k (listing l) i.loop-k-test.true,
    (listing l).size,
  )

  in_part : Listable i.loop-k.w i.args.n (i.args.old + get_or i.loop-k.w at 0) i.loop-k.r
      (get_or i.loop-k.w (at + 1) 0) (get_or i.loop-k.w (i.args.entries + i.loop-k.k) 0 % 2)
  in_part = listing_listable i.args.w.now i.args.n i.args.old i.args.entries i.args.m i.requires i.loop-k.w i.loop-k.r i.loop-k.k (listing l) i.loop-k-test.true

pub loop-k-init : goal.loop-k-init
loop-k-init c = let a = c.args in λ y. listing_start a.w.now a.n a.old a.entries a.m y

pub overflow_mul-e : goal.overflow_mul-e
overflow_mul-e c = omega (arith, in_record (goal.at.overflow_mul-e c).In-loop-k)

pub overflow_add-old : goal.overflow_add-old
overflow_add-old c = omega (arith, in_record (goal.at.overflow_add-old c).In-loop-k)

pub read-piece-requires : goal.read-piece-requires
read-piece-requires c = (in_record (goal.at.read-piece-requires c).In-loop-k).0

pub overflow_add-old-in-loop-k : goal.overflow_add-old-in-loop-k
overflow_add-old-in-loop-k c =
    let i = (goal.at.overflow_add-old-in-loop-k c).In-loop-k in
    omega (arith, c.read-piece.ensures.member, (in_part i).inside, in_record i)

pub list_members-requires : goal.list_members-requires
list_members-requires c = rw (c.read-piece.ensures.member, c.read-piece.ensures.members) (in_part (goal.at.list_members-requires c).In-loop-k)

pub loop-k-preserved : goal.loop-k-preserved
loop-k-preserved c =
    let a = c.args in
    λ y. rw c.read-piece.ensures.members (listing_step a.w.now a.n a.old a.entries a.m y c.loop-k.w c.loop-k.r c.loop-k.k (c.loop-k.invariant y) c.loop-k-test.true
    c.list_members.new.w (rw (c.read-piece.ensures.member, c.read-piece.ensures.members) at c.list_members.ensures))

pub returns : goal.returns
returns c =
    let a = c.args in
    λ y. listing_done a.w.now a.n a.old a.entries a.m y c.loop-k.w c.loop-k.r c.loop-k.k (c.loop-k.invariant y) c.loop-k-test.false
