-- `direction::piece_direction` meets its contract: either side is one of the two searches.
use mathlib.Core.Path.{sym, ap, ◌∙◌}
use mathlib.Core.Bool.{Bool, cond}
use mathlib.Core.List.{reverse}
use borrow.Author.Tests.{eq-eqb, ne_eqb}
use borrow.Author.Rules.{rules}
use Rattle.rules.specs.Plane.{points, direction_of}
use Rattle.point_direction.proofs.piece_direction.Goals as goal

pub returns-then-side-eq0 : goal.returns-then-side-eq0
returns-then-side-eq0 c =
    let a = c.args in
    let l = points a.width a.c.now in
    c.from_first.ensures ∙ ap (λ (b : Bool). direction_of (cond b l (reverse l))) (sym (eq-eqb a.side 0 c.if-side-eq0.true))

pub returns-else-side-eq0 : goal.returns-else-side-eq0
returns-else-side-eq0 c =
    let a = c.args in
    let l = points a.width a.c.now in
    c.from_last.ensures ∙ ap (λ (b : Bool). direction_of (cond b l (reverse l))) (sym (ne_eqb a.side 0 c.if-side-eq0.false))
