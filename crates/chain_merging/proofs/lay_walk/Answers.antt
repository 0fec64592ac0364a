-- One piece is copied, whichever source it stands in; more pieces are laid one after another.
use Prim.Native.Nat.{◌+◌, ◌≤◌}
use mathlib.Core.Path.{subst, sym}
use mathlib.Core.List.{List}
use lib.ListN.{length, get_or}
use Rattle.rules.specs.Plane.{Point, flat}
use Rattle.rules.specs.Walking.{piece_of}
use Rattle.rules.specs.Refusals.{piece_size}
use Rattle.point_slices.specs.Holds.{HoldsFrom}
use Rattle.chain_pieces.specs.Held.{record_of}
use Rattle.chain_merging.proofs.Coordinates.{more_points, lone_recorded, lone_asks, lone_held}
use Rattle.chain_merging.proofs.Walked.{first_inside}
use Rattle.chain_merging.proofs.lay_walk.Goals as goal
use Rattle.chain_merging.proofs.lay_walk.Goals.{Start}

-- the record of the first entry
in_record : (s : Start) → record_of s.args.old (piece_of (get_or s.args.w.now s.args.from 0)) + piece_size ≤ length s.args.w.now
in_record s =
    let a = s.args in
    first_inside a.width a.w.now a.old a.from a.to a.input.now a.spare.now s.requires.entered

pub coordinates_of-c-requires : goal.coordinates_of-c-requires
coordinates_of-c-requires c =
    let a = c.args in
    lone_recorded a.width a.w.now a.old a.from a.to a.input.now a.spare.now a.merged.now a.at c.requires c.if-to-from-eq1.true

pub copy_into-requires : goal.copy_into-requires
copy_into-requires c =
    let a = c.args in
    lone_asks a.width a.w.now a.old a.from a.to a.input.now a.spare.now a.merged.now a.at c.requires c.if-to-from-eq1.true c.coordinates_of-c.result.now c.coordinates_of-c.ensures

pub returns-then-to-from-eq1 : goal.returns-then-to-from-eq1
returns-then-to-from-eq1 c =
    let a = c.args in
    λ y. lone_held a.width a.w.now a.old a.from a.to a.input.now a.spare.now a.merged.now a.at y c.if-to-from-eq1.true c.coordinates_of-c.result.now c.coordinates_of-c.ensures
    c.copy_into.new.dst c.copy_into.ensures

pub returns-else-to-from-eq1 : goal.returns-else-to-from-eq1
returns-else-to-from-eq1 c =
    let a = c.args in
    λ y. subst (λ (l : List Point). HoldsFrom c.append_walk.new.merged a.merged.now a.at c.append_walk.result (flat a.width l))
    (sym (more_points a.width a.w.now a.old a.from a.to a.input.now a.spare.now y.entered c.if-to-from-eq1.false))
    (c.append_walk.ensures y)
