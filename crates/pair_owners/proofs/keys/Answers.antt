-- `keys` writes the keys of the ends: those of the ends passed stand, and all before the keys is as it was.
use Rattle.pair_owners.proofs.Angles.{keying_next}
use Rattle.pair_owners.proofs.keys.Goals as goal

pub loop-e-preserved : goal.loop-e-preserved
loop-e-preserved c = keying_next c.requires c.loop-e.invariant c.loop-e-test.true c.angle_of.ensures
