-- Between two walks the records and copies of those before stand where they belong (`Emitting`).
use Rattle.chain_merging.specs.Emit.{Walks}
use Rattle.chain_merging.proofs.Emitting.{Emitting}
use Rattle.chain_merging.proofs.emit_walks.Given as goal

abbrev pub invariant-loop-j : goal.invariant-loop-j
invariant-loop-j l = (y : Walks l.width l.initial.w l.n l.old l.m l.entries l.lengths l.r l.input l.spare l.initial.merged) → Emitting l.width l.initial.w l.n l.old l.m l.entries l.lengths l.r l.input l.spare l.initial.merged y l.w l.merged l.from l.members l.points l.j
