-- After j turns the bytes of the first j pairs of numbers stand from `at` on; then that of the last, where there are an odd number of them.
use Prim.Native.Nat.{◌*◌, ◌/◌}
use mathlib.Core.Path.{refl, subst}
use native.Mathlib.Omega.{arith}
use native.Mathlib.Nat.{div-mul-le_self}
use lib.ListN.{length}
use Rattle.wkb_records.specs.Orders.{byte_of}
use Rattle.wkb_writing.proofs.Laws.{Begun, none_put, pair_put, rest_put}
use Rattle.wkb_writing.proofs.put_numbers.Goals as goal

pub loop-j-init : goal.loop-j-init
loop-j-init c = none_put _ _ _ c.args.numbers.now

pub loop-j-preserved : goal.loop-j-preserved
loop-j-preserved c =
    pair_put c.args.numbers.now (byte_of c.args.order) c.args.at c.loop-j.j c.loop-j.invariant c.requires c.loop-j-test.true c.put_each.ensures (omega arith) (omega arith)

pub returns : goal.returns
returns c =
    let a = c.args in
    let o = c.loop-j in
    let all = subst (λ j. Begun o.run a.run.now a.numbers.now (byte_of a.order) a.at (j * 2)) (omega (arith, c.loop-j-test.false, o.auto.j-end)) o.invariant in
    rest_put a.numbers.now (byte_of a.order) a.at (length a.numbers.now / 2 * 2) _ (div-mul-le_self (length a.numbers.now) 2) refl (omega arith) all c.requires c.put_each-2.ensures
