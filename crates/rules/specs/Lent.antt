-- What a caller lends, as the code has it, in the book's words.
use Rattle.rules.specs.Library.{ℕ, List, Float}
use Rattle.rules.specs.declared.LentLines.{LentLines}
use Rattle.rules.specs.declared.Ends.{Ends}
use Rattle.rules.specs.Layout.{Lines, lent}
use Rattle.rules.specs.Refusals.{LentEnds}

abbrev pub lines_of : LentLines → Lines
lines_of l = lent l.coordinates.now l.counts.now l.groups.now l.kinds.now

-- the ends of a call, down to a limit, with its two rooms
abbrev pub ends_lent : Ends → Float → List ℕ → List ℕ → LentEnds
ends_lent e limit pairs workspace =
    record { present = e.present.now; directions = e.directions.now; pieces = e.pieces.now; limit = limit; pairs = pairs; workspace = workspace }
