-- `build` does what the book's record says: a refusal stores nothing, and a call without one is built.
use Rattle.build_chains.proofs.Built.{refused_on}
use Rattle.build_chains.proofs.build.Goals as goal

pub returns-in_err-refusal : goal.returns-in_err-refusal
returns-in_err-refusal c = refused_on _ _ _ _ _ _ c.from_residual.ensures.1 c.in_err-refusal.ensures
