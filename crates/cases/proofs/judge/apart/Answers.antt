-- `apart` is safe: the parts that it lends are within their slices, since it has tested how many there are.
use mathlib.Core.Path.{sym}
use lib.Seq.{length-take-le}
use borrow.Author.Rules.{rules}
use Rattle.cases.proofs.judge.apart.Goals as goal

pub slice_bounds-builds-end : goal.slice_bounds-builds-end
slice_bounds-builds-end c = sym (length-take-le _ _ (search rules))

pub slice_bounds-builds-end-2 : goal.slice_bounds-builds-end-2
slice_bounds-builds-end-2 c = sym (length-take-le _ _ (search rules))

pub slice_bounds-builds-end-3 : goal.slice_bounds-builds-end-3
slice_bounds-builds-end-3 c = sym (length-take-le _ _ (search rules))
