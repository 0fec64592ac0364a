-- The indexed route's answer, as a number.
use Rattle.rules.specs.Answers.{answered}
use Rattle.door.proofs.pairing.lovasuku_pairs_indexed.Goals as goal

pub returns : goal.returns
returns c =
    let call = c.pairs in
    record { answer = answered call.result; number = c.number.ensures; determined = call.ensures }
