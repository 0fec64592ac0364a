-- The plain route's answer with an offset, as a number.
use Rattle.rules.specs.Answers.{answered}
use Rattle.door.proofs.pairing.lovasuku_pairs_plain_offset.Goals as goal

pub returns : goal.returns
returns c =
    let call = c.pairs_offset in
    record { answer = answered call.result; number = c.number.ensures; determined = call.ensures }
