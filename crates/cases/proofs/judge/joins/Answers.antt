-- `joins` is safe: the parts that it lends are within their slices, since it has tested how many there are.
use mathlib.Core.Path.{sym}
use lib.Seq.{length-take-le}
use borrow.Author.Rules.{rules}
use Rattle.cases.proofs.judge.joins.Goals as goal

pub slice_bounds-builds-end : goal.slice_bounds-builds-end
slice_bounds-builds-end c = sym (length-take-le _ _ (search rules))
