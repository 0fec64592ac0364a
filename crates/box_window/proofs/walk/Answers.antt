-- The loop's invariant is `Walked`. Each turn goes on to a box that begins at a later chain, or down to one that begins at the same chain.
use Prim.Native.Nat.{◌<◌}
use mathlib.Core.Path.{sym, ◌∙◌}
use native.Mathlib.Omega.{arith}
use Rattle.box_window.specs.Levels.{first}
use Rattle.box_window.proofs.Below.{first_down}
use Rattle.box_window.proofs.Walked.{Walked, Passed, small, found_small, before_end, walked_start, walked_down, walked_found, walked_hidden, passed_as, passed_on, walked_done}
use Rattle.box_window.proofs.walk.Goals as goal
use Rattle.box_window.proofs.walk.Goals.{After-highest-next, then-shown+else-level-gt0, else-shown}

pub loop-level-init : goal.loop-level-init
loop-level-init c = walked_start _ _ _ _ _ c.requires.0 _

pub overflow_add-starts : goal.overflow_add-starts
overflow_add-starts c = omega (arith, (small _ _ _ _ _ c.requires.0 _ _ c.loop-level.invariant.ready).0, c.requires.2)

pub overflow_mul-j : goal.overflow_mul-j
overflow_mul-j c = omega (arith, (small _ _ _ _ _ c.requires.0 _ _ c.loop-level.invariant.ready).1, c.requires.2)

pub loop-level-smaller-then-level-gt0 : goal.loop-level-smaller-then-level-gt0
loop-level-smaller-then-level-gt0 c = omega (arith, first_down c.loop-level.level c.loop-level.j c.if-level-gt0.true)

pub loop-level-preserved-then-level-gt0 : goal.loop-level-preserved-then-level-gt0
loop-level-preserved-then-level-gt0 c = walked_down _ _ _ _ _ c.requires.0 _ _ _ _ _ c.if-level-gt0.true c.loop-level.invariant c.loop-level-test.true (sym c.shown.ensures ∙ c.if-shown.true)

pub overflow_cast-found : goal.overflow_cast-found
overflow_cast-found c = omega (arith, (found_small _ _ _ _ _ c.requires.0 _ _ c.if-level-gt0.false c.loop-level.invariant c.loop-level-test.true).0, c.requires.2)

pub bounds-found-have : goal.bounds-found-have
bounds-found-have c = omega (arith, found_small _ _ _ _ _ c.requires.0 _ _ c.if-level-gt0.false c.loop-level.invariant c.loop-level-test.true, c.loop-level.invariant.size, c.requires.1)

-- where the arms meet, box j has been looked at
passed : (c : After-highest-next) → Passed c.args.w c.args.boxes.now c.args.k c.args.top c.args.found.now c.if-shown.found c.if-shown.have c.loop-level.level c.loop-level.j
passed c =
    let l = c.loop-level.invariant in
    let i = c.loop-level-test.true in
    elim c.if-shown.branch [
      | then-shown+else-level-gt0 x ↦ passed_as _ _ x.found-is x.have-is (walked_found _ _ _ _ _ c.requires.0 _ _ _ _ _ x.if-level-gt0.false l i c.requires.1 (sym c.shown.ensures ∙ x.if-shown.true))
      | else-shown x ↦ passed_as _ _ x.found-is x.have-is (walked_hidden _ _ _ _ _ c.requires.0 _ _ _ _ _ l i (sym c.shown.ensures ∙ x.if-shown.false))
    ]

onward : (c : After-highest-next) → Walked c.args.w c.args.boxes.now c.args.k c.args.top c.args.found.now c.if-shown.found c.if-shown.have c.highest-next.result.level c.highest-next.result.j
    × (first c.loop-level.level c.loop-level.j < first c.highest-next.result.level c.highest-next.result.j)
onward c = passed_on _ _ _ _ _ c.requires.0 _ _ _ _ _ (passed c) c.highest-next.result c.highest-next.ensures

pub loop-level-smaller : goal.loop-level-smaller
loop-level-smaller c = omega (arith, (onward (goal.at.loop-level-smaller c).After-highest-next).1, before_end _ _ _ _ _ c.requires.0 _ _ c.loop-level.invariant.ready c.loop-level-test.true, (onward (goal.at.loop-level-smaller c).After-highest-next).0.ready.low, c.requires.0.few)

pub loop-level-preserved : goal.loop-level-preserved
loop-level-preserved c = (onward (goal.at.loop-level-preserved c).After-highest-next).0

pub returns : goal.returns
returns c = walked_done _ _ _ _ _ c.requires.0 _ _ _ _ _ c.loop-level.invariant c.loop-level-test.false
