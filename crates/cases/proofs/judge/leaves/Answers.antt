-- `leaves` is safe: the parts that it lends are within their slices, since it has tested how many there are.
use mathlib.Core.Path.{sym}
use lib.Seq.{length-take-le}
use borrow.Author.Rules.{rules}
use Rattle.cases.proofs.judge.leaves.Goals as goal

pub slice_bounds-build-end : goal.slice_bounds-build-end
slice_bounds-build-end c = sym (length-take-le _ _ (search rules))

pub slice_bounds-copies-end : goal.slice_bounds-copies-end
slice_bounds-copies-end c = sym (length-take-le _ _ (search rules))
