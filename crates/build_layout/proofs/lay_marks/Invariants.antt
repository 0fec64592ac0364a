-- After i turns the first i words of the part stand at the front.
use Rattle.build_layout.proofs.Parts.{Copying}
use Rattle.build_layout.proofs.lay_marks.Given as goal

abbrev pub invariant-loop-i : goal.invariant-loop-i
invariant-loop-i l = Copying l.out l.initial.out l.w l.from l.k 0 l.i
