-- After i turns the words of the first i items stand from `at` on.
use native.Mathlib.Omega.{arith}
use Rattle.pair_lending.proofs.Copies.{word_more}
use Rattle.pair_lending.proofs.put.Goals as goal

pub loop-i-preserved : goal.loop-i-preserved
loop-i-preserved g c =
    word_more g.T.Word.word_of c.loop-i.w c.args.w.now c.args.items.now c.args.at c.loop-i.i _ _ c.loop-i.invariant c.requires (omega arith) c.index-items-i.is c.word.ensures
