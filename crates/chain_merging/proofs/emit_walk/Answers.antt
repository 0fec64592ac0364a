-- A walk of one line keeps the record of its line; any other is copied.
use Prim.Native.Nat.{◌+◌, ◌≤◌}
use lib.ListN.{length, get_or}
use Rattle.rules.specs.Walking.{piece_of}
use Rattle.rules.specs.Refusals.{piece_size}
use Rattle.chain_pieces.specs.Held.{record_of}
use Rattle.chain_merging.proofs.Walked.{first_inside, emitted_alone, emitted_copied}
use Rattle.chain_merging.proofs.emit_walk.Goals as goal
use Rattle.chain_merging.proofs.emit_walk.Goals.{Start}

-- the record of the first entry
in_record : (s : Start) → record_of s.args.old (piece_of (get_or s.args.w.now s.args.from 0)) + piece_size ≤ length s.args.w.now
in_record s =
    let a = s.args in
    first_inside a.width a.w.now a.old a.from a.to a.input.now a.spare.now s.requires.laying.entered

pub returns-then-b-eq1 : goal.returns-then-b-eq1
returns-then-b-eq1 c =
    let a = c.args in
    λ y. emitted_alone a.width a.w.now a.old a.from a.to a.input.now a.spare.now a.merged.now a.at a.b a.c y c.if-b-eq1.true
    c.put.new.w a.m (rw (c.read-own.ensures.point, c.read-own.ensures.points) at c.put.ensures)

pub returns : goal.returns
returns c =
    let a = c.args in
    λ y. emitted_copied a.width a.w.now a.old a.from a.to a.input.now a.spare.now a.merged.now a.at a.b a.c y c.if-b-eq1.false
    c.put-2.new.w c.lay_walk-h.new.merged a.m c.lay_walk-h.result
    (c.lay_walk-h.ensures y.laying) c.put-2.ensures
