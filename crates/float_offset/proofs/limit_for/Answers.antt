-- `float_offset::limit_for` meets its contract: what the answer's bits stand for, and a NaN where it is a refusal.
use Rattle.float_offset.proofs.Limits.{limit_of_answer}
use Rattle.float_offset.proofs.limit_for.Goals as goal

pub returns : goal.returns
returns c = limit_of_answer c.args.g c.offset_limit.result c.map_or.result c.offset_limit.ensures c.map_or.ensures
