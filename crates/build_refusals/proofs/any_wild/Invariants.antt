-- `any_wild` tells whether a number is none: the sign's place of what was made so far is taken where one of the numbers passed is none, and beside it stand
-- those of what is left.
use Rattle.std.proofs.Common.{◌≡◌, ◌+◌, ◌/◌, ◌^◌, ◌<◌, ltb, drop}
use Rattle.build_refusals.specs.Tests.{wild_of}
use Rattle.build_refusals.proofs.any_wild.Given as goal

abbrev pub invariant-loop-number : goal.invariant-loop-number
invariant-loop-number l =
    (l.any < 2 ^ 64) × (ltb 0 (l.any / 2 ^ 63 + wild_of (drop l.number-index l.numbers)) ≡ ltb 0 (wild_of l.numbers))
