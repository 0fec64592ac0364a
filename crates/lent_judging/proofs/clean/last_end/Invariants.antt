-- `last_end`: behind the first q records none has merged coordinates; so the last of those is the last of all.
use Prim.Native.Nat.{◌≤◌}
use mathlib.Core.Path.{◌≡◌}
use Rattle.lent_judging.specs.Front.{last_end}
use Rattle.lent_judging.proofs.clean.last_end.Given as goal

abbrev pub invariant-loop-q : goal.invariant-loop-q
invariant-loop-q l = (l.q ≤ l.k) × (last_end l.pieces l.q ≡ last_end l.pieces l.k)
