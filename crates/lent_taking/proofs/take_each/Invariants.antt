-- `take_each`: the first q pieces are taken, each behind those before it.

use Rattle.lent_taking.specs.Taking.{Took}
use Rattle.lent_taking.proofs.take_each.Given as goal

abbrev pub invariant-loop-q : goal.invariant-loop-q
invariant-loop-q l = Took l.w l.initial.w l.n l.q l.pieces.records.now l.pieces.members.now l.pieces.marks.now l.pieces.listing.now l.m
