-- After i turns the first i words stand at the beginning of the pairs; each is below 2 ^ 32, so that the narrower number keeps it.
use native.Mathlib.Omega.{arith}
use Rattle.pair_lending.proofs.Copies.{words_more}
use Rattle.pair_lending.proofs.take_pairs.Goals as goal

pub loop-i-preserved : goal.loop-i-preserved
loop-i-preserved c =
    words_more c.loop-i.pairs c.args.pairs.now c.args.w.now c.args.at c.args.n c.loop-i.i c.loop-i.invariant c.requires.within c.requires.room (omega arith)
