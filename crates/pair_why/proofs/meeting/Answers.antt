-- After p turns none of the first p pairs has one of the two ends, so that the place in what is left tells the place in all.
use mathlib.Core.Path.{sym, ◌∙◌}
use native.Mathlib.Omega.{arith}
use Rattle.pair_why.proofs.Looking.{meeting_here, meeting_next, meeting_none}
use Rattle.pair_why.proofs.meeting.Goals as goal

pub returns-then-meets : goal.returns-then-meets
returns-then-meets c =
    omega (arith, c.loop-p.invariant, meeting_here c.args.i c.args.j c.args.listed.now c.loop-p.p (omega arith) (sym c.meets.ensures ∙ c.if-meets.true))

pub loop-p-preserved : goal.loop-p-preserved
loop-p-preserved c =
    omega (arith, c.loop-p.invariant, meeting_next c.args.i c.args.j c.args.listed.now c.loop-p.p (omega arith) (sym c.meets.ensures ∙ c.if-meets.false))

pub returns : goal.returns
returns c = omega (arith, c.loop-p.invariant, meeting_none c.args.i c.args.j c.args.listed.now c.loop-p.p (omega arith))
