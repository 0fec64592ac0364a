-- After p turns none of the first p pairs has one of the two ends, so that the place in what is left tells the place in all.
use Prim.Native.Nat.{◌+◌, ◌*◌}
use mathlib.Core.Path.{◌≡◌}
use lib.ListN.{drop}
use Rattle.pair_why.specs.Looking.{first_meeting}
use Rattle.pair_why.proofs.meeting.Given as goal

abbrev pub invariant-loop-p : goal.invariant-loop-p
invariant-loop-p l = l.p + first_meeting l.i l.j (drop (l.p * 2) l.listed) ≡ first_meeting l.i l.j l.listed
