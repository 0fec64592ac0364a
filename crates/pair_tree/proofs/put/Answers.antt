use Rattle.pair_tree.proofs.Rows.{puts}
use Rattle.pair_tree.proofs.put.Goals as goal

pub returns : goal.returns
returns g c =
    let N = g.N.RowNode in
    let e = rw c.WORDS.ensures at c.write.ensures.put in
    let k = rw c.WORDS.ensures at c.write.ensures.kept in
    puts N.at N.WORDS N.union N.Sound g.met.N.RowNode.union_sound g.met.N.RowNode.words_alone e k
