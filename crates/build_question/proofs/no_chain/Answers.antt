-- `no_chain` is the book's test. Each return answers by the arm of the test that decides there.
use mathlib.Core.Path.{sym}
use native.Mathlib.Omega.{arith}
use Rattle.build_question.proofs.Laws.{no_record, no_source, room_input, room_merged}
use Rattle.build_question.proofs.no_chain.Goals as goal

pub returns-then-table-k : goal.returns-then-table-k
returns-then-table-k c = sym (no_record _ _ _ _ _ c.if-table-k.true)

pub returns-in_default : goal.returns-in_default
returns-in_default c = sym (no_source _ _ _ _ _ c.if-table-k.false (omega arith))

pub returns-in-0 : goal.returns-in-0
returns-in-0 c = sym (room_input _ _ _ _ _ c.if-table-k.false c.in-0.is)

pub returns-in-1 : goal.returns-in-1
returns-in-1 c = sym (room_merged _ _ _ _ _ c.if-table-k.false c.in-1.is)
