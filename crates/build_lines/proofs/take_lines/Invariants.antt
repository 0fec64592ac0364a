-- After k lines the plain ones among them stand in the block: `Taking` says how, and its laws are the start, a line of either sort, and the end.
use Rattle.build_lines.proofs.Taking.{Taking}
use Rattle.build_lines.proofs.take_lines.Given as goal

abbrev pub invariant-loop-k : goal.invariant-loop-k
invariant-loop-k l = Taking l.w l.initial.w l.n l.k l.m l.first l.counts l.kinds
