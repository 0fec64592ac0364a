use Rattle.pair_tree.proofs.Rows.{Climbing}
use Rattle.pair_tree.proofs.set.Given as goal

abbrev pub invariant-loop-q : goal.invariant-loop-q
invariant-loop-q g l =
    let N = g.N.RowNode in
    let laws = g.met.N.RowNode in
    Climbing N.at N.WORDS N.union N.Sound laws.union_sound laws.words_alone l.initial.w l.w l.t l.base l.q

abbrev pub decreases-loop-q : goal.decreases-loop-q
decreases-loop-q g l = l.q
