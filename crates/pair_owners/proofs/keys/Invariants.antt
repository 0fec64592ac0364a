-- `keys` writes the keys of the ends: those of the ends passed stand, and all before the keys is as it was.
use Rattle.pair_owners.proofs.Angles.{Keying}
use Rattle.pair_owners.proofs.keys.Given as goal

abbrev pub invariant-loop-e : goal.invariant-loop-e
invariant-loop-e l = Keying l.initial.w l.w l.d l.e
