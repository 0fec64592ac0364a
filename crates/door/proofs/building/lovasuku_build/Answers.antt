-- Building's answer, as a number.
use Rattle.rules.specs.Answers.{answered}
use Rattle.door.proofs.building.lovasuku_build.Goals as goal

pub returns : goal.returns
returns c =
    let call = c.build in
    record { answer = answered call.result; number = c.number.ensures; determined = call.ensures }
