-- `named_numbers`: source 0 names the input, and another the merged coordinates.
use Rattle.std.proofs.Common.{sym, ap, length}
use Rattle.lent_judging.proofs.Single.{source_input, source_merged}
use Rattle.lent_judging.proofs.named_numbers.Goals as goal

pub returns-then-piece-eq0 : goal.returns-then-piece-eq0
returns-then-piece-eq0 c = ap length (sym (source_input _ _ _ c.if-piece-eq0.true))

pub returns-else-piece-eq0 : goal.returns-else-piece-eq0
returns-else-piece-eq0 c = ap length (sym (source_merged _ _ _ c.if-piece-eq0.false))
