-- `list_outer` reads the lengths of the walks and their first and last entries, which stand below what it writes (`Listing`).
use Prim.Native.Nat.{ℕ, ◌+◌, ◌-◌, ◌*◌, ◌/◌, ◌≤◌, ◌<◌}
use native.Mathlib.Omega.{arith}
use lib.ListN.{length, get_or}
use Rattle.chain_meeting.proofs.Listing.{listing_start, listing_done, size, inside, filled, last_low, listing_step}
use Rattle.chain_meeting.proofs.list_outer.Goals as goal
use Rattle.chain_meeting.proofs.list_outer.Goals.{In-loop-j}

-- what a turn knows of the numbers that it reads
record Turn (w : ℕ → ℕ) (long entries lengths r at from j : ℕ) : Type 0 where
  within : j < r
  room : at + r * 2 ≤ long
  lengths_below : lengths + r ≤ at
  some : 0 < w (lengths + j)
  ends : from + w (lengths + j) ≤ at
  low : w (from + w (lengths + j) - 1) / 2 < 4096

turn : (i : In-loop-j)
    → let l = i.loop-j in
    let a = i.args in
    Turn (λ k. get_or l.w k 0) (length l.w) a.entries a.lengths a.r a.at l.from l.j
turn i =
    let l = i.loop-j in
    let a = i.args in
    let o = l.invariant i.requires in
    let h = i.loop-j-test.true in
    let z = size a.w.now a.entries a.lengths a.r a.at i.requires l.w l.from l.j o in
    record {
      within = h;
      room = omega (arith, z, i.requires.room);
      lengths_below = i.requires.lengths_below;
      some = filled a.w.now a.entries a.lengths a.r a.at i.requires l.w l.from l.j o h;
      ends = inside a.w.now a.entries a.lengths a.r a.at i.requires l.w l.from l.j o h;
      low = last_low a.w.now a.entries a.lengths a.r a.at i.requires l.w l.from l.j o h;
    }

pub loop-j-init : goal.loop-j-init
loop-j-init c = λ y. listing_start c.args.w.now c.args.entries c.args.lengths c.args.r c.args.at y

pub overflow_add-to-in-loop-j : goal.overflow_add-to-in-loop-j
overflow_add-to-in-loop-j c = let t = turn (goal.at.overflow_add-to-in-loop-j c).In-loop-j in omega (arith, t.within, t.room, t.lengths_below, t.some, t.ends, t.low)

pub offset_bounds-w-from : goal.offset_bounds-w-from
offset_bounds-w-from c = let t = turn (goal.at.offset_bounds-w-from c).In-loop-j in omega (arith, t.within, t.room, t.lengths_below, t.some, t.ends, t.low)

pub bounds-w-from : goal.bounds-w-from
bounds-w-from c = let t = turn (goal.at.bounds-w-from c).In-loop-j in omega (arith, t.within, t.room, t.lengths_below, t.some, t.ends, t.low)

pub overflow_sub-last : goal.overflow_sub-last
overflow_sub-last c = let t = turn (goal.at.overflow_sub-last c).In-loop-j in omega (arith, t.within, t.room, t.lengths_below, t.some, t.ends, t.low)

pub offset_bounds-w-to : goal.offset_bounds-w-to
offset_bounds-w-to c = let t = turn (goal.at.offset_bounds-w-to c).In-loop-j in omega (arith, t.within, t.room, t.lengths_below, t.some, t.ends, t.low)

pub bounds-w-to : goal.bounds-w-to
bounds-w-to c = let t = turn (goal.at.bounds-w-to c).In-loop-j in omega (arith, t.within, t.room, t.lengths_below, t.some, t.ends, t.low)

pub overflow_add-w-in-loop-j : goal.overflow_add-w-in-loop-j
overflow_add-w-in-loop-j c = let t = turn (goal.at.overflow_add-w-in-loop-j c).In-loop-j in omega (arith, t.within, t.room, t.lengths_below, t.some, t.ends, t.low)

pub loop-j-preserved : goal.loop-j-preserved
loop-j-preserved c =
    let l = c.loop-j in
    let a = c.args in
    λ y. listing_step a.w.now a.entries a.lengths a.r a.at y l.w l.from l.j (l.invariant y) c.loop-j-test.true

pub returns : goal.returns
returns c =
    let l = c.loop-j in
    let a = c.args in
    λ y. listing_done a.w.now a.entries a.lengths a.r a.at y l.w l.from l.j (l.invariant y) c.loop-j-test.false
