-- One point more at each turn: the box so far, grown by the points to come, is the box of all.
use borrow.Author.Rules.{rules}
use Prim.Native.Nat.{◌-◌}
use native.Mathlib.Omega.{arith}
use lib.ListN.{length}
use Rattle.box_levels.proofs.Points.{Grown, grown_start, grown_room, grown_real, grown_more, grown_done}
use Rattle.box_levels.proofs.of_few.Goals as goal

pub loop-i-init : goal.loop-i-init
loop-i-init c = grown_start c.requires c.nothing-all.ensures

pub offset_bounds-part-i : goal.offset_bounds-part-i
offset_bounds-part-i c = omega arith

pub bounds-part-i : goal.bounds-part-i
bounds-part-i c = omega arith

pub overflow_add-i : goal.overflow_add-i
overflow_add-i c = omega arith

pub offset_bounds-part-i-in-loop-i : goal.offset_bounds-part-i-in-loop-i
offset_bounds-part-i-in-loop-i c = omega (arith, c.requires.two, grown_room c.requires.two c.loop-i.invariant c.loop-i-test.true)

pub bounds-part-i-in-loop-i : goal.bounds-part-i-in-loop-i
bounds-part-i-in-loop-i c = omega (arith, c.requires.two, grown_room c.requires.two c.loop-i.invariant c.loop-i-test.true)

pub spot-requires : goal.spot-requires
spot-requires c = grown_real c.requires.two c.loop-i.invariant c.loop-i-test.true

pub overflow_add-i-in-loop-i : goal.overflow_add-i-in-loop-i
overflow_add-i-in-loop-i c = omega (arith, grown_room c.requires.two c.loop-i.invariant c.loop-i-test.true)

pub loop-i-smaller : goal.loop-i-smaller
loop-i-smaller c = omega (arith, c.requires.two, c.loop-i-test.true, grown_room c.requires.two c.loop-i.invariant c.loop-i-test.true)

pub loop-i-preserved : goal.loop-i-preserved
loop-i-preserved c = grown_more c.requires.two c.loop-i.invariant c.loop-i-test.true c.spot.ensures c.around-all.ensures

pub returns : goal.returns
returns c = grown_done c.requires.two c.loop-i.invariant c.loop-i-test.false
