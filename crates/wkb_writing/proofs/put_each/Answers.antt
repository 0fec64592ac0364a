-- After i turns the bytes of the first i numbers stand from `at` on.
use mathlib.Core.Path.{refl, subst}
use Prim.Native.Nat.{◌+◌, ◌*◌}
use Rattle.point_slices.specs.Holds.{HoldsFrom}
use Rattle.wkb_records.specs.Orders.{byte_of}
use Rattle.wkb_writing.proofs.Laws.{none_put, number_put}
use Rattle.wkb_writing.proofs.put_each.Goals as goal

pub loop-i-init : goal.loop-i-init
loop-i-init c = none_put _ _ _ c.args.numbers.now

pub loop-i-preserved : goal.loop-i-preserved
loop-i-preserved c =
    let a = c.args in
    let o = c.loop-i in
    number_put a.numbers.now (byte_of a.order) a.at o.i (o.i + 1) refl o.invariant c.requires c.loop-i-test.true
    (subst (HoldsFrom c.put.new.run o.run (a.at + o.i * 8) 8) c.eight_of.ensures c.put.ensures)
