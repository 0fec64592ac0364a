-- Two points are equal where both their numbers are: the two calls of `bits::same` are the two tests of the book.
use mathlib.Core.Path.{sym, ◌∙◌}
use Rattle.rules.specs.Plane.{equal as EqualOf}
use Rattle.point_numbers.proofs.equal.Goals as goal

pub returns-then-same : goal.returns-then-same
unfolding EqualOf
returns-then-same c = rw (sym c.same.ensures ∙ c.if-same.true) c.same-then-same.ensures

pub returns-else-same : goal.returns-else-same
unfolding EqualOf
returns-else-same c = rw (sym c.same.ensures ∙ c.if-same.false) c.if-same.false
