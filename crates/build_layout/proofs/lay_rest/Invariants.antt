-- After k lines those of them that pass through are chains: `Resting` says how, and its laws are the start, a line of either sort, and the end.
use Rattle.build_layout.specs.Laying.{Rest}
use Rattle.build_layout.proofs.Resting.{Resting}
use Rattle.build_layout.proofs.lay_rest.Given as goal

abbrev pub invariant-loop-k : goal.invariant-loop-k
invariant-loop-k l =
    (y : Rest l.width l.lines.coordinates.now l.lines.counts.now l.lines.kinds.now l.j l.m l.initial.table l.initial.members l.initial.marks l.initial.listing)
    → Resting l.width l.lines.counts.now l.lines.kinds.now l.lines.coordinates.now y.groups l.j l.m l.table l.initial.table l.members l.initial.members l.marks l.initial.marks l.listing l.initial.listing l.k l.r l.first
