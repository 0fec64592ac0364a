-- The window question's answer, as a number.
use Rattle.rules.specs.Answers.{answered}
use Rattle.door.proofs.chains.lovasuku_window.Goals as goal

pub returns : goal.returns
returns c =
    let call = c.chains_in in
    record { answer = answered call.result; number = c.number.ensures; determined = call.ensures }
