use mathlib.Core.Path.{refl}
use native.Mathlib.Omega.{arith}
use Rattle.pair_indexed.proofs.Handing.{stale_next, replaces_idle, replaces_none, replaces_next}
use Rattle.pair_indexed.proofs.replace.Goals as goal

pub returns-then-d-s : goal.returns-then-d-s
returns-then-d-s c = replaces_idle c.requires c.if-d-s.true

pub returns-in_default : goal.returns-in_default
returns-in_default c = replaces_none c.requires c.if-d-s.false c.in_default.ensures.due refl c.none.ensures c.set.ensures

pub refresh-requires : goal.refresh-requires
refresh-requires c =
    let r = c.requires in
    stale_next r.owning _ r.within r.taken r.holds c.if-d-s.false c.in-Some.ensures.due (λ e. omega (arith, c.in-Some.ensures.below refl))

pub returns : goal.returns
returns c = replaces_next c.requires c.if-d-s.false c.in-Some.ensures.due (λ e. omega (arith, c.in-Some.ensures.below refl)) c.refresh.ensures
