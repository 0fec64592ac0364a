-- `row_end`: the first q are in a row, and their members end where the next have to begin; one that begins elsewhere ends the row for all behind it.
use Rattle.std.proofs.Common.{◌≡◌, ◌≤◌, true}
use Rattle.lent_taking.specs.Row.{row_end, in_row}
use Rattle.lent_taking.proofs.row_end.Given as goal

abbrev pub invariant-loop-q : goal.invariant-loop-q
invariant-loop-q l = (l.end ≡ row_end l.records l.q) × (in_row l.records l.q ≡ true) × (l.end ≤ 8589934590)
