-- The first call's answer, as a number.
use Rattle.rules.specs.Answers.{answered}
use Rattle.door.proofs.building.lovasuku_first.Goals as goal

pub returns : goal.returns
returns c = record { answer = answered c.first.result; number = c.number.ensures; determined = c.first.ensures }
