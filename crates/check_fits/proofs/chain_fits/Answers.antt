-- The three kinds of chains.
use native.Mathlib.Omega.{arith}
use mathlib.Core.Path.{sym, ◌∙◌}
use lib.ListN.{length-map}
use Rattle.rules.specs.Plane.{points}
use Rattle.check_fits.specs.Fits.{chosen}
use Rattle.check_fits.proofs.Listed.{line_of}
use Rattle.check_fits.proofs.Joining.{fits_joins, none_fits}
use Rattle.check_fits.proofs.chain_fits.Goals as goal

pub returns-in-empty : goal.returns-in-empty
returns-in-empty c =
    let a = c.args in
    let l = a.lines.now in
    c.is_empty.ensures ∙ none_fits l.width l.coordinates.now l.firsts.now l.counts.now l.groups.now l.kinds.now l.tabled a.m a.listed.now a.chain.now c.requires c.in-empty.len_below

pub returns-in_default : goal.returns-in_default
returns-in_default c =
    let a = c.args in
    let l = a.lines.now in
    c.joins.ensures
    ∙ sym (fits_joins a.m (chosen l.width l.coordinates.now l.counts.now l.groups.now l.kinds.now a.listed.now) (points l.width a.chain.now)
    (omega (arith, length-map a.listed.now (line_of l.width l.coordinates.now l.firsts.now l.counts.now l.groups.now l.kinds.now l.tabled))))
