-- The lines that were passed have their first coordinates, and the sum is that of the next.
use native.Mathlib.Omega.{arith}
use Prim.Native.Nat.{◌+◌}
use Rattle.check_lines.proofs.Numbers.{placing_start, placing_next, total_next, total_part}
use Rattle.check_lines.proofs.first_places.Goals as goal

pub loop-i-init : goal.loop-i-init
loop-i-init c = placing_start c.args.firsts.now c.args.counts.now c.requires.2

pub overflow_add-sum : goal.overflow_add-sum
overflow_add-sum c =
    let a = c.args in
    let o = c.loop-i in
    omega (arith, o.invariant.summed, total_next a.counts.now o.i (omega arith), total_part a.counts.now (o.i + 1), c.requires.1)

pub loop-i-preserved : goal.loop-i-preserved
loop-i-preserved c =
    let a = c.args in
    let o = c.loop-i in
    placing_next o.firsts a.counts.now o.sum o.i o.invariant (omega arith) c.requires.0
