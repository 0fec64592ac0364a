-- c is how often p stands among the pieces passed.
use mathlib.Core.Path.{sym}
use Prim.Native.Nat.{◌+◌}
use native.Mathlib.Omega.{arith}
use Rattle.pair_refusals.proofs.Times.{none_first, count_most, count_next, count_whole}
use Rattle.pair_refusals.proofs.times_among.Goals as goal

pub loop-q-init : goal.loop-q-init
loop-q-init c = sym (none_first c.args.p c.args.pieces.now)

pub overflow_add-c : goal.overflow_add-c
overflow_add-c c =
    let l = c.loop-q in
    let p = c.args.p in
    let pieces = c.args.pieces.now in
    omega (arith, count_next p pieces l.q-index l.c (omega arith) l.invariant, count_most p pieces (l.q-index + 1))

pub loop-q-preserved : goal.loop-q-preserved
loop-q-preserved c = let l = c.loop-q in count_next c.args.p c.args.pieces.now l.q-index l.c (omega arith) l.invariant

pub returns : goal.returns
returns c = let l = c.loop-q in count_whole c.args.p c.args.pieces.now l.q-index l.c (omega arith) l.invariant
