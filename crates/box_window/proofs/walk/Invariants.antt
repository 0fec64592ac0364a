-- The loop's invariant is `Walked`. Each turn goes on to a box that begins at a later chain, or down to one that begins at the same chain.
use Prim.Native.Nat.{◌-◌, ◌+◌, ◌*◌}
use Rattle.box_window.specs.Levels.{first}
use Rattle.box_window.proofs.Walked.{Walked}
use Rattle.box_window.proofs.walk.Given as goal

abbrev pub invariant-loop-level : goal.invariant-loop-level
invariant-loop-level l = Walked l.w l.boxes l.k l.top l.initial.found l.found l.have l.level l.j

abbrev pub decreases-loop-level : goal.decreases-loop-level
decreases-loop-level l = (l.k - first l.level l.j) * 64 + l.level
