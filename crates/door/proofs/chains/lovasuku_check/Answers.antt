-- The answer of the check, as a number.
use Rattle.rules.specs.Answers.{answered}
use Rattle.door.proofs.chains.lovasuku_check.Goals as goal

pub returns : goal.returns
returns c =
    let call = c.check in
    record { answer = answered call.result; number = c.number.ensures; determined = call.ensures }
