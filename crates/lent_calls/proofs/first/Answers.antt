-- `first` does what the book's record says: a refusal stores nothing, and a call without one leaves its pieces.
use Rattle.lent_calls.proofs.FirstCall.{refused_on}
use Rattle.lent_calls.proofs.first.Goals as goal

pub returns-in_err-first_refusal : goal.returns-in_err-first_refusal
returns-in_err-first_refusal c = refused_on _ _ _ _ _ _ _ c.from_residual.ensures.1 c.in_err-first_refusal.ensures
