-- `any_wild` tells whether a number is none, number by number.
use Rattle.std.proofs.Common.{ap, ◌∙◌, ltb, zero-add, arith}
use lib.Bits.{or_lt}
use Rattle.build_refusals.specs.Tests.{wild_of}
use Rattle.build_refusals.proofs.Places.{wild_more, wild_told}
use Rattle.build_refusals.proofs.any_wild.Goals as goal

pub loop-number-init : goal.loop-number-init
loop-number-init c = (omega arith, ap (ltb 0) (zero-add (wild_of c.args.numbers.now)))

pub loop-number-preserved : goal.loop-number-preserved
loop-number-preserved c =
    let l = c.loop-number in
    let r = c.raised-any in
    (or_lt 64 l.any r.result l.invariant.0 r.ensures.1, wild_more c.args.numbers.now l.number-index l.any r.result (omega arith) l.invariant.0 r.ensures.0 ∙ l.invariant.1)

pub returns : goal.returns
returns c = let l = c.loop-number in wild_told c.args.numbers.now l.number-index l.any (omega arith) l.invariant.0 l.invariant.1
