use Rattle.pair_tree.proofs.Rows.{climbing_next}
use Rattle.pair_tree.proofs.set.Goals as goal

pub loop-q-preserved : goal.loop-q-preserved
loop-q-preserved g c =
    let N = g.N.RowNode in
    climbing_next N.at N.WORDS N.union N.Sound g.met.N.RowNode.union_sound g.met.N.RowNode.words_alone c.loop-q.invariant c.loop-q-test.true c.renew.ensures
