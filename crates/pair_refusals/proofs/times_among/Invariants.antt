-- c is how often p stands among the pieces passed.
use mathlib.Core.Path.{◌≡◌}
use lib.ListN.{take}
use Rattle.rules.specs.Lists.{count}
use Rattle.pair_refusals.proofs.times_among.Given as goal

abbrev pub invariant-loop-q : goal.invariant-loop-q
invariant-loop-q l = l.c ≡ count l.p (take l.q-index l.pieces)
