use Rattle.std.proofs.Common.{arith}
use Rattle.pair_plain.proofs.Blockwise.{blocks_fit}
use Rattle.pair_plain.proofs.settle.Goals as goal

pub least-low-requires : goal.least-low-requires
least-low-requires c = let u = blocks_fit c.args.d c.args.b c.requires.1 in (omega (arith, u), omega (arith, u))
