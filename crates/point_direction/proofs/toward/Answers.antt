-- `direction::toward` meets its contract: the callee ensures the length, and the test says which case it is.
use mathlib.Core.Path.{◌≡◌, sym, ap, ◌∙◌}
use mathlib.Core.Bool.{Bool, true, false}
use borrow.Author.Rules.{rules}
use lib.Ieee.{Float, lt, of_bits}
use Rattle.rules.specs.Plane.{nought, length_of, toward}
use Rattle.point_direction.specs.Seen.{over}
use Rattle.point_direction.proofs.toward.Goals as goal

by_length : (l dx dy : Float) (b : Bool) → l ≡ length_of dx dy → lt nought l ≡ b → over b dx dy l ≡ toward dx dy
unfolding toward
by_length l dx dy b e h = ap (λ (t : Bool). over t dx dy l) (sym h) ∙ ap (λ (v : Float). over (lt nought v) dx dy v) e

pub returns-then-length : goal.returns-then-length
unfolding of_bits
returns-then-length c =
    by_length c.root-length.result c.args.dx c.args.dy true c.root-length.ensures c.if-length.true

pub returns-else-length : goal.returns-else-length
unfolding of_bits
returns-else-length c =
    by_length c.root-length.result c.args.dx c.args.dy false c.root-length.ensures c.if-length.false
