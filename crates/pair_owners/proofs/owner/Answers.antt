use Rattle.pair_owners.proofs.Turns.{slotted_present, slotted_absent}
use Rattle.pair_owners.proofs.owner.Goals as goal

pub returns-then-w-e-eq1 : goal.returns-then-w-e-eq1
returns-then-w-e-eq1 c m = slotted_present c.args.w.now c.args.d c.requires.0 c.args.p c.requires.1 c.args.g m c.if-w-e-eq1.true

pub returns-else-w-e-eq1 : goal.returns-else-w-e-eq1
returns-else-w-e-eq1 c m = slotted_absent c.args.w.now c.args.d c.requires.0 c.args.p c.requires.1 c.args.g m c.if-w-e-eq1.false
