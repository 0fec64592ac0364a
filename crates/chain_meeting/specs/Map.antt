-- Where the ends of a round's walks are grouped, in words for each line of the call: where the next round has its groups, as this round's part counts.
use Rattle.std.specs.Prelude.{ℕ}

abbrev pub meeting_block : ℕ
meeting_block = 138
