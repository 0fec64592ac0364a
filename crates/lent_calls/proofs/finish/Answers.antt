-- `finish` does what the book's record says: a refusal stores nothing, and a call without one finishes the pieces that are lent.
use Rattle.lent_calls.proofs.SecondCall.{refused_on}
use Rattle.lent_calls.proofs.finish.Goals as goal

pub returns-in_err-finish_refusal : goal.returns-in_err-finish_refusal
returns-in_err-finish_refusal c = refused_on _ _ _ _ _ _ _ c.from_residual.ensures.1 c.in_err-finish_refusal.ensures
