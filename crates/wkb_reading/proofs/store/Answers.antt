-- The loop keeps `Storing`; each step stores one record.
use native.Mathlib.Omega.{arith}
use Rattle.rules.specs.Wkb.{count_of}
use Rattle.wkb_reading.proofs.Storing.{start, inside, part_headed, room, step, stop}
use Rattle.wkb_reading.proofs.store.Goals as goal

pub loop-i-init : goal.loop-i-init
loop-i-init c = start _ _ _ _ c.requires

pub overflow_add-to : goal.overflow_add-to
overflow_add-to c = omega (arith, inside c.loop-i.invariant c.loop-i-test.true)

pub slice_bounds-word-end : goal.slice_bounds-word-end
slice_bounds-word-end c = omega (arith, inside c.loop-i.invariant c.loop-i-test.true)

pub word-requires : goal.word-requires
word-requires c = part_headed c.loop-i.invariant c.loop-i-test.true

pub store_record-have-requires : goal.store_record-have-requires
store_record-have-requires c =
    let taken = c.loop-i-test.true in
    (part_headed c.loop-i.invariant taken, room c.loop-i.invariant taken c.requires.room)

pub loop-i-preserved : goal.loop-i-preserved
unfolding count_of
loop-i-preserved c =
    let stored = c.store_record-have.ensures in
    step c.loop-i.invariant c.loop-i-test.true c.requires c.word.ensures stored.end stored.holds

pub returns : goal.returns
returns c = stop c.loop-i.invariant c.loop-i-test.false
