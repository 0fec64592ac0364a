use Rattle.std.proofs.Common.{arith, ◌∙◌, ap}
use Rattle.std.specs.Prelude.{Bool, not}
use Rattle.rules.specs.Lists.{one}
use Rattle.pair_plain.proofs.Starting.{byte_one, marked_step}
use Rattle.pair_plain.proofs.mark_all.Goals as goal

pub loop-e-preserved : goal.loop-e-preserved
loop-e-preserved c =
    marked_step _ _ _ _ _ (omega (arith, c.requires.long)) c.loop-e.auto.w c.loop-e-test.true c.loop-e.invariant (c.from.ensures ∙ byte_one _ ∙ ap (λ (b : Bool). one (not b)) c.is_numbered.ensures)
