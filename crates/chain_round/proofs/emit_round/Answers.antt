-- `emit_round` emits the walks of a round: the pieces of the walks are the book's `join`.
use Rattle.chain_round.proofs.Joining.{walked_emits, emitted_rounded}
use Rattle.chain_round.proofs.emit_round.Goals as goal

pub emit_all-requires : goal.emit_all-requires
emit_all-requires c = walked_emits c.requires

pub returns : goal.returns
returns c = λ y. emitted_rounded y (c.emit_all.ensures (walked_emits y))
