use Rattle.pair_tree.proofs.Rows.{Joining}
use Rattle.pair_tree.proofs.join.Given as goal

abbrev pub invariant-loop-n : goal.invariant-loop-n
invariant-loop-n g l =
    let N = g.N.RowNode in
    let laws = g.met.N.RowNode in
    Joining N.at N.WORDS N.union N.Sound laws.union_sound laws.words_alone l.initial.w l.w l.t l.base l.n
