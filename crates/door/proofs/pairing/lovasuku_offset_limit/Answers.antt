-- The limit's bits, as a number.
use borrow.Author.Rules.{rules}
use mathlib.Core.Path.{ap, ◌∙◌}
use Rattle.rules.specs.Calls.{number_of}
use Rattle.door.proofs.pairing.lovasuku_offset_limit.Goals as goal

pub returns : goal.returns
returns c = c.number.ensures ∙ ap number_of c.offset_limit.ensures
