-- `put_ends` puts end by end into the part. The list and the records stand below the part and stay as they were.
use Rattle.chain_junctions.proofs.Laws.{Ending}
use Rattle.chain_junctions.proofs.put_ends.Given as goal

abbrev pub invariant-loop-i : goal.invariant-loop-i
invariant-loop-i l = Ending l.width l.records l.list l.part l.d l.input l.spare l.w l.initial.w l.i
