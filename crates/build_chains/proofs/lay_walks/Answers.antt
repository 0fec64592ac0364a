-- `lay_walks` lays what stands in round one's part, and leaves the rest of the workspace.
use Rattle.build_chains.proofs.Laying.{walks_laid}
use Rattle.build_chains.proofs.lay_walks.Goals as goal

pub returns : goal.returns
returns c = λ y. walks_laid y c.emit_round.auto.w (c.emit_round.ensures y.emits)
