-- The two points at which the lines are left and entered.
use Prim.Native.Nat.{ℕ, ◌+◌}
use lib.ListN.{get_or}
use Rattle.rules.specs.Plane.{point}
use Rattle.rules.specs.Check.{meet}
use mathlib.Core.Path.{ap₂, ◌∙◌}
use Rattle.check_marks.proofs.Meets.{joint_is}
use Rattle.check_marks.proofs.joint.Goals as goal

pub returns : goal.returns
returns c =
    let a = c.args in
    c.meet.ensures
    ∙ ap₂ (λ (i j : ℕ). meet a.m (point (get_or a.p.now i 0) (get_or a.p.now (i + 1) 0)) (point (get_or a.l.now j 0) (get_or a.l.now (j + 1) 0)))
    c.end_of-a.ensures c.end_of-b.ensures
    ∙ joint_is a.m a.width a.p.now a.l.now a.d a.e c.requires.0 c.requires.1
