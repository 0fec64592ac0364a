-- Two slices are equal where their numbers are.
use Rattle.std.proofs.Common.{rules}
use Rattle.check_lines.proofs.Numbers.{same_is}
use Rattle.check_lines.proofs.same_numbers.Goals as goal

pub returns : goal.returns
returns c = same_is _ _ _ (search rules)
