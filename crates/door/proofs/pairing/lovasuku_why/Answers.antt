-- The question's answer, as a number.
use Rattle.rules.specs.Answers.{answered}
use Rattle.door.proofs.pairing.lovasuku_why.Goals as goal

pub returns : goal.returns
returns c =
    let call = c.why in
    record { answer = answered call.result; number = c.number.ensures; determined = call.ensures }
