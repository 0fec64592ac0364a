-- Line after line: what is left of them leads from the possible places to the end exactly if all lead there.
use Prim.Native.Nat.{◌+◌}
use Rattle.check_chains.proofs.Choosing.{Choosing}
use Rattle.check_chains.proofs.a_choice.Given as goal

abbrev pub invariant-loop-y : goal.invariant-loop-y
invariant-loop-y l = Choosing l.m l.width l.coordinates l.firsts l.counts l.listed l.chain l.tables.marks l.h l.p (l.y-index + 1)
