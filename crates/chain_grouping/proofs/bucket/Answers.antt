use Rattle.std.proofs.Common.{arith}
use Rattle.chain_grouping.specs.Group.{bucket_of}
use Rattle.chain_grouping.proofs.Keys.{part_below}
use Rattle.chain_grouping.proofs.bucket.Goals as goal

pub returns : goal.returns
unfolding bucket_of
returns c = (
  cc (c.halved-t.ensures, c.halved-c.ensures, c.halved-b.ensures, c.halved-a.ensures),
  part_below c.halved-t.result c.args.m (omega arith) c.requires.0,
)
