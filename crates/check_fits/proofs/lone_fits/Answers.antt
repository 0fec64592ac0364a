-- The line's numbers are a part of the coordinates.
use native.Mathlib.Omega.{arith}
use mathlib.Core.Path.{ap, ◌∙◌}
use Rattle.rules.specs.Check.{same_numbers}
use Rattle.check_fits.proofs.Joining.{lone_fits, line_there}
use Rattle.check_fits.proofs.lone_fits.Goals as goal

pub line_of-own-requires : goal.line_of-own-requires
line_of-own-requires c =
    let l = c.args.lines.now in
    line_there l.width l.coordinates.now l.firsts.now l.counts.now l.groups.now l.kinds.now l.tabled c.args.y (c.requires.below 0 (omega arith))

pub returns : goal.returns
returns c =
    let l = c.args.lines.now in
    λ m. c.same_numbers.ensures ∙ ap (λ p. same_numbers p c.args.chain.now) c.line_of-own.ensures
    ∙ lone_fits l.width l.coordinates.now l.firsts.now l.counts.now l.groups.now l.kinds.now l.tabled m c.args.y c.args.chain.now c.requires
