-- The reader's answer, as a number.
use Rattle.rules.specs.Answers.{answered}
use Rattle.door.proofs.wkb.lovasuku_read_wkb.Goals as goal

pub returns : goal.returns
returns c =
    let call = c.read in
    record { answer = answered call.result; number = c.number.ensures; determined = call.ensures }
