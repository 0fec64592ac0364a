-- `all_noted`: each plain line of the first y has a mark, or one has none.
use Rattle.std.proofs.Common.{◌≡◌, true, false}
use Rattle.lent_noting.proofs.Gathered.{AllMarked, OneMissing}
use Rattle.lent_noting.proofs.all_noted.Given as goal

abbrev pub invariant-loop-y : goal.invariant-loop-y
invariant-loop-y l = (l.left ≡ false → AllMarked l.seen l.counts l.kinds l.y) × (l.left ≡ true → OneMissing l.seen l.counts l.kinds l.y)
