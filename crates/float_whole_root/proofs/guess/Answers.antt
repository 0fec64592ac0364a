-- `whole_root::guess` meets its contract: half of w is a whole number that a float holds, the terms are those of `guess_of` with each constant worked out
-- from its decimal digits, and the rest is `leading`.
use lib.Ieee.{of_bits}
use Rattle.float_whole_root.specs.Guess.{guess_of, radicand, start, step, mean, fraction}
use Rattle.float_whole_root.proofs.Exact.{half_in}
use borrow.Author.Rules.{rules}
use Rattle.float_whole_root.proofs.guess.Goals as goal

pub int_to_float-x : goal.int_to_float-x
int_to_float-x c = half_in c.args.w c.requires

pub returns : goal.returns
unfolding guess_of radicand start step mean fraction of_bits
returns c = (c.leading.ensures.0, search rules, search rules)
