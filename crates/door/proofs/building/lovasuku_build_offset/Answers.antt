-- Building's answer with an offset, as a number.
use Rattle.rules.specs.Answers.{answered}
use Rattle.door.proofs.building.lovasuku_build_offset.Goals as goal

pub returns : goal.returns
returns c =
    let call = c.build_offset in
    record { answer = answered call.result; number = c.number.ensures; determined = call.ensures }
