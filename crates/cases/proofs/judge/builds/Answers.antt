-- `builds` is safe: the parts that it lends are within their slices, since it has tested how many there are.
use mathlib.Core.Path.{sym}
use lib.Seq.{length-take-le}
use borrow.Author.Rules.{rules}
use Rattle.cases.proofs.judge.builds.Goals as goal

pub slice_bounds-leaves-end : goal.slice_bounds-leaves-end
slice_bounds-leaves-end c = sym (length-take-le _ _ (search rules))

pub slice_bounds-leaves-end-2 : goal.slice_bounds-leaves-end-2
slice_bounds-leaves-end-2 c = sym (length-take-le _ _ (search rules))
