-- `any_wild` is the book's test. The loop has passed only ends that are absent or finite, so that the test of what is left is the test of all.
use mathlib.Core.Path.{sym, ◌∙◌}
use native.Mathlib.Omega.{arith}
use Rattle.pair_refusals.proofs.Finite.{wild_here, wild_step, wild_none}
use Rattle.pair_refusals.proofs.any_wild.Goals as goal

pub returns-then-wild : goal.returns-then-wild
returns-then-wild c =
    sym (wild_here c.args.present.now c.args.directions.now c.loop-e.e (omega arith) (omega arith) (sym c.wild.ensures ∙ c.if-wild.true)) ∙ c.loop-e.invariant

pub loop-e-preserved : goal.loop-e-preserved
loop-e-preserved c =
    sym (wild_step c.args.present.now c.args.directions.now c.loop-e.e (omega arith) (omega arith) (sym c.wild.ensures ∙ c.if-wild.false)) ∙ c.loop-e.invariant

pub returns : goal.returns
returns c = sym (wild_none c.args.present.now c.args.directions.now c.loop-e.e (omega arith)) ∙ c.loop-e.invariant
