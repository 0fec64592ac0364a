-- The answer with its refusal renumbered.
use Rattle.offset_calls.proofs.Numbers.{accepted, refused}
use Rattle.offset_calls.proofs.renumbered.Goals as goal

pub returns-in-Ok : goal.returns-in-Ok
returns-in-Ok c = accepted c.args.switch c.in-Ok.n c.in-Ok.is

pub returns-in-Err : goal.returns-in-Err
returns-in-Err c = refused c.args.switch c.in-Err.refusal c.of_offset.result c.in-Err.is c.of_offset.ensures
