-- The second call's answer, as a number.
use Rattle.rules.specs.Answers.{answered}
use Rattle.door.proofs.building.lovasuku_finish.Goals as goal

pub returns : goal.returns
returns c = record { answer = answered c.finish.result; number = c.number.ensures; determined = c.finish.ensures }
