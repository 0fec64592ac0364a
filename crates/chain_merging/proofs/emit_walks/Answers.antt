-- Between two walks the records and copies of those before stand where they belong (`Emitting`).
use Prim.Native.Nat.{◌+◌, ◌≤◌, ◌<◌}
use mathlib.Core.Path.{◌≡◌}
use native.Mathlib.Omega.{arith}
use lib.ListN.{length, get_or}
use lib.Seq.{slice}
use Rattle.rules.specs.Chaining.{merge}
use Rattle.chain_merging.specs.Emit.{Walks}
use Rattle.chain_merging.proofs.Emitting.{Emitting, emitting_start, emitting_done, turn_length, turn_entries, counted, emittable, members_fit, emitting_step}
use Rattle.chain_merging.proofs.emit_walks.Goals as goal
use Rattle.chain_merging.proofs.emit_walks.Goals.{After-count_members-b, At-loop-j, In-loop-j}

-- the state at the loop's test
emitting : (l : At-loop-j)
    → let a = l.args in
    Emitting a.width a.w.now a.n a.old a.m a.entries a.lengths a.r a.input.now a.spare.now a.merged.now l.requires
    l.loop-j.w l.loop-j.merged l.loop-j.from l.loop-j.members l.loop-j.points l.loop-j.j
emitting l = l.loop-j.invariant l.requires

-- in a turn: the walk's length and its entries are in w
module _ (i : In-loop-j) where
  abbrev l : At-loop-j
  l = (goal.at.In-loop-j i).At-loop-j

  in_lengths : i.args.lengths + i.loop-j.j < length i.loop-j.w
  in_lengths =
      turn_length i.args.width i.args.w.now i.args.n i.args.old i.args.m i.args.entries i.args.lengths i.args.r i.args.input.now i.args.spare.now i.args.merged.now i.requires
      i.loop-j.w i.loop-j.merged i.loop-j.from i.loop-j.members i.loop-j.points i.loop-j.j (emitting l) i.loop-j-test.true

  in_entries : i.loop-j.from + get_or i.loop-j.w (i.args.lengths + i.loop-j.j) 0 ≤ length i.loop-j.w
  in_entries =
      turn_entries i.args.width i.args.w.now i.args.n i.args.old i.args.m i.args.entries i.args.lengths i.args.r i.args.input.now i.args.spare.now i.args.merged.now i.requires
      i.loop-j.w i.loop-j.merged i.loop-j.from i.loop-j.members i.loop-j.points i.loop-j.j (emitting l) i.loop-j-test.true

-- what was counted are the members of the walk's piece
counts : (k : After-count_members-b)
    → let a = k.args in
    (y : Walks a.width a.w.now a.n a.old a.m a.entries a.lengths a.r a.input.now a.spare.now a.merged.now)
    → k.count_members-b.result ≡ length (merge y.rule y.ps (slice k.loop-j.from (k.loop-j.from + get_or k.loop-j.w (a.lengths + k.loop-j.j) 0) k.loop-j.w)).lines
counts k y =
    let a = k.args in
    k.count_members-b.ensures
    (counted a.width a.w.now a.n a.old a.m a.entries a.lengths a.r a.input.now a.spare.now a.merged.now y
    k.loop-j.w k.loop-j.merged k.loop-j.from k.loop-j.members k.loop-j.points k.loop-j.j (k.loop-j.invariant y) k.loop-j-test.true)

pub loop-j-init : goal.loop-j-init
loop-j-init c = let a = c.args in λ y. emitting_start a.width a.w.now a.n a.old a.m a.entries a.lengths a.r a.input.now a.spare.now a.merged.now y

pub overflow_add-to-in-loop-j : goal.overflow_add-to-in-loop-j
overflow_add-to-in-loop-j c = omega (arith, in_entries (goal.at.overflow_add-to-in-loop-j c).In-loop-j, (emitting (goal.at.overflow_add-to-in-loop-j c).At-loop-j).size_same)

pub count_members-b-requires : goal.count_members-b-requires
count_members-b-requires c =
    let a = c.args in
    counted a.width a.w.now a.n a.old a.m a.entries a.lengths a.r a.input.now a.spare.now a.merged.now c.requires
    c.loop-j.w c.loop-j.merged c.loop-j.from c.loop-j.members c.loop-j.points c.loop-j.j (emitting (goal.at.count_members-b-requires c).At-loop-j) c.loop-j-test.true

pub emit_walk-points-requires : goal.emit_walk-points-requires
emit_walk-points-requires c =
    let a = c.args in
    emittable a.width a.w.now a.n a.old a.m a.entries a.lengths a.r a.input.now a.spare.now a.merged.now c.requires
    c.loop-j.w c.loop-j.merged c.loop-j.from c.loop-j.members c.loop-j.points c.loop-j.j (emitting (goal.at.emit_walk-points-requires c).At-loop-j) c.loop-j-test.true
    c.count_members-b.result (counts (goal.at.emit_walk-points-requires c).After-count_members-b c.requires)

pub overflow_add-members : goal.overflow_add-members
overflow_add-members c =
    let a = c.args in
    omega (
      arith,
      members_fit a.width a.w.now a.n a.old a.m a.entries a.lengths a.r a.input.now a.spare.now a.merged.now c.requires
          c.loop-j.w c.loop-j.merged c.loop-j.from c.loop-j.members c.loop-j.points c.loop-j.j (emitting (goal.at.overflow_add-members c).At-loop-j) c.loop-j-test.true
          c.count_members-b.result (counts (goal.at.overflow_add-members c).After-count_members-b c.requires),
      c.requires.front,
      c.requires.held.room,
    )

pub loop-j-preserved : goal.loop-j-preserved
loop-j-preserved c =
    let a = c.args in
    λ y. emitting_step a.width a.w.now a.n a.old a.m a.entries a.lengths a.r a.input.now a.spare.now a.merged.now y
    c.loop-j.w c.loop-j.merged c.loop-j.from c.loop-j.members c.loop-j.points c.loop-j.j (c.loop-j.invariant y) c.loop-j-test.true
    c.count_members-b.result (counts (goal.at.loop-j-preserved c).After-count_members-b y) c.emit_walk-points.new.w c.emit_walk-points.new.merged c.emit_walk-points.result
    (c.emit_walk-points.ensures
    (emittable a.width a.w.now a.n a.old a.m a.entries a.lengths a.r a.input.now a.spare.now a.merged.now y
    c.loop-j.w c.loop-j.merged c.loop-j.from c.loop-j.members c.loop-j.points c.loop-j.j (c.loop-j.invariant y) c.loop-j-test.true
    c.count_members-b.result (counts (goal.at.loop-j-preserved c).After-count_members-b y)))

pub returns : goal.returns
returns c =
    let a = c.args in
    λ y. emitting_done a.width a.w.now a.n a.old a.m a.entries a.lengths a.r a.input.now a.spare.now a.merged.now y
    c.loop-j.w c.loop-j.merged c.loop-j.from c.loop-j.members c.loop-j.points c.loop-j.j (c.loop-j.invariant y) c.loop-j-test.false
