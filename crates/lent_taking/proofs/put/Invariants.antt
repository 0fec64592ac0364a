-- `put`: after i turns what the first i numbers convert to stands from `at` on.
use Rattle.std.proofs.Common.{take}
use Rattle.lent_taking.specs.Taking.{Converted}
use Rattle.lent_taking.proofs.put.Given as goal

abbrev pub invariant-loop-i : goal.invariant-loop-i
invariant-loop-i g l = Converted g.T.Into.converts (take l.i l.numbers) l.w l.initial.w l.at
