-- Each reason has the number that the book gives it.
use borrow.Author.Rules.{rules}
use mathlib.Core.Path.{sym, ap}
use Rattle.rules.specs.Reasons.{reason_number}
use Rattle.pair_why.proofs.number.Goals as goal

pub returns-in-Selected : goal.returns-in-Selected
unfolding reason_number
returns-in-Selected c = sym (ap reason_number c.in-Selected.is)

pub returns-in-SamePiece : goal.returns-in-SamePiece
unfolding reason_number
returns-in-SamePiece c = sym (ap reason_number c.in-SamePiece.is)

pub returns-in-AbsentDirection : goal.returns-in-AbsentDirection
unfolding reason_number
returns-in-AbsentDirection c = sym (ap reason_number c.in-AbsentDirection.is)

pub returns-in-NotQualifying : goal.returns-in-NotQualifying
unfolding reason_number
returns-in-NotQualifying c = sym (ap reason_number c.in-NotQualifying.is)

pub returns-in-Blocked : goal.returns-in-Blocked
unfolding reason_number
returns-in-Blocked c = sym (ap reason_number c.in-Blocked.is)
