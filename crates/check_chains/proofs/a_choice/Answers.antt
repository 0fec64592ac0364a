-- Line after line: what is left of them leads from the possible places to the end exactly if all lead there.
use Prim.Native.Nat.{◌+◌, ◌-◌}
use lib.ListN.{length, drop, length-take, length-drop}
use native.Mathlib.Omega.{arith}
use mathlib.Core.Path.{sym, ap, ◌∙◌, subst}
use Rattle.check_chains.specs.Chains.{LineThere, line_at}
use Rattle.check_chains.proofs.Choosing.{behind_at, there, choosing_start, choosing_dead, choosing_ahead, choosing_next, choosing_end}
use Rattle.check_chains.proofs.a_choice.Goals as goal

pub loop-y-init : goal.loop-y-init
loop-y-init c =
    let a = c.args in
    choosing_start a.m a.width a.coordinates.now a.firsts.now a.counts.now a.listed.now a.chain.now c.requires _ c.begin-h.result _ c.line_of-p.ensures c.begin-h.ensures

pub returns-then-h : goal.returns-then-h
returns-then-h c =
    let a = c.args in
    let o = c.loop-y in
    choosing_dead a.m a.width a.coordinates.now a.firsts.now a.counts.now a.listed.now a.chain.now c.requires _ o.h _ (o.y-index + 1) o.invariant c.if-h.true

pub line_of-l-requires : goal.line_of-l-requires
line_of-l-requires c =
    let a = c.args in
    let o = c.loop-y in
    let b = behind_at a.listed.now o.y-index c.loop-y-test.true in
    subst (LineThere a.width a.coordinates.now a.firsts.now a.counts.now) (sym b.1) (there a.width a.coordinates.now a.firsts.now a.counts.now a.listed.now a.chain.now c.requires (o.y-index + 1) b.0)

pub advance-h-requires : goal.advance-h-requires
advance-h-requires c =
    let a = c.args in
    let o = c.loop-y in
    let b = behind_at a.listed.now o.y-index c.loop-y-test.true in
    choosing_ahead a.m a.width a.coordinates.now a.firsts.now a.counts.now a.listed.now a.chain.now c.requires _ o.h _ (o.y-index + 1) o.invariant b.0 _
    (c.line_of-l.ensures ∙ ap (line_at a.width a.coordinates.now a.firsts.now a.counts.now) b.1) c.if-h.false

pub loop-y-preserved : goal.loop-y-preserved
unfolding choosing_ahead
loop-y-preserved c =
    let a = c.args in
    let o = c.loop-y in
    let b = behind_at a.listed.now o.y-index c.loop-y-test.true in
    let e = c.line_of-l.ensures ∙ ap (line_at a.width a.coordinates.now a.firsts.now a.counts.now) b.1 in
    choosing_next a.m a.width a.coordinates.now a.firsts.now a.counts.now a.listed.now a.chain.now c.requires _ o.h _ (o.y-index + 1) o.invariant b.0 _ e _ c.advance-h.result
    (c.advance-h.ensures (choosing_ahead a.m a.width a.coordinates.now a.firsts.now a.counts.now a.listed.now a.chain.now c.requires _ o.h _ (o.y-index + 1) o.invariant b.0 _ e c.if-h.false))

pub at_end-requires : goal.at_end-requires
at_end-requires c = let o = c.loop-y in omega (arith, o.invariant.steady.few, o.invariant.within, c.requires.few)

pub returns : goal.returns
returns c =
    let a = c.args in
    let o = c.loop-y in
    choosing_end a.m a.width a.coordinates.now a.firsts.now a.counts.now a.listed.now a.chain.now c.requires _ o.h _ (o.y-index + 1) o.invariant
    (omega (arith, length-take (length a.listed.now - 1) (drop 1 a.listed.now), length-drop 1 a.listed.now)) c.at_end.result c.at_end.ensures
