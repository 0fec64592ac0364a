-- No piece stands more than twice among the first i, as long as each was met at most once before its place.
use mathlib.Core.Path.{sym}
use native.Mathlib.Omega.{arith}
use Rattle.pair_refusals.proofs.Times.{twice_start, twice_step, twice_all, thrice_here}
use Rattle.pair_refusals.proofs.thrice_few.Goals as goal

pub loop-i-init : goal.loop-i-init
loop-i-init c = twice_start c.args.pieces.now

pub returns-then-times_among-gt1 : goal.returns-then-times_among-gt1
returns-then-times_among-gt1 c =
    sym (thrice_here c.args.pieces.now c.loop-i.i (omega arith) (omega (arith, c.times_among.ensures)))

pub loop-i-preserved : goal.loop-i-preserved
loop-i-preserved c = twice_step c.loop-i.invariant (omega arith) (omega (arith, c.times_among.ensures))

pub returns : goal.returns
returns c = sym (twice_all c.loop-i.invariant (omega arith))
