use mathlib.Core.Path.{refl}
use Rattle.pair_indexed.proofs.Turns.{going_start, both_free, one_taken, going_some, going_stop, i_in, j_in, going_stale, going_again, again_falls, going_takes, going_took, took_falls}
use Rattle.pair_indexed.proofs.choose.Goals as goal

pub loop-c-init : goal.loop-c-init
loop-c-init c = let a = c.args.plan in going_start c.args.w.now a.d a.index.height a.slots a.limit c.requires.1

pub live-requires : goal.live-requires
live-requires c =
    let g = c.loop-c.invariant in
    let r = c.in-Some.c in
    let e = c.in-Some.ensures.entry in
    let some = going_some g r e (c.in-Some.ensures.some refl) in
    (g.owning.ground.room, i_in g r e some, j_in g r e some)

pub take-requires : goal.take-requires
take-requires c =
    let g = c.loop-c.invariant in
    let r = c.in-Some.c in
    let e = c.in-Some.ensures.entry in
    let some = going_some g r e (c.in-Some.ensures.some refl) in
    (c.requires.0, going_takes g r e some (both_free c.live.ensures c.if-live.true))

pub loop-c-smaller-then-live : goal.loop-c-smaller-then-live
loop-c-smaller-then-live c =
    let g = c.loop-c.invariant in
    let r = c.in-Some.c in
    let e = c.in-Some.ensures.entry in
    let some = going_some g r e (c.in-Some.ensures.some refl) in
    took_falls g r e some (both_free c.live.ensures c.if-live.true) c.take.ensures

pub loop-c-preserved-then-live : goal.loop-c-preserved-then-live
loop-c-preserved-then-live c =
    let g = c.loop-c.invariant in
    let r = c.in-Some.c in
    let e = c.in-Some.ensures.entry in
    let some = going_some g r e (c.in-Some.ensures.some refl) in
    going_took g r e some (both_free c.live.ensures c.if-live.true) c.take.ensures

pub refresh-requires : goal.refresh-requires
refresh-requires c =
    let g = c.loop-c.invariant in
    let r = c.in-Some.c in
    let e = c.in-Some.ensures.entry in
    going_stale g r e (going_some g r e (c.in-Some.ensures.some refl))

pub loop-c-smaller : goal.loop-c-smaller
loop-c-smaller c =
    let g = c.loop-c.invariant in
    let r = c.in-Some.c in
    let e = c.in-Some.ensures.entry in
    let some = going_some g r e (c.in-Some.ensures.some refl) in
    again_falls g r e some c.refresh.ensures (one_taken c.live.ensures c.if-live.false)

pub loop-c-preserved : goal.loop-c-preserved
loop-c-preserved c =
    let g = c.loop-c.invariant in
    let r = c.in-Some.c in
    let e = c.in-Some.ensures.entry in
    going_again g r e (going_some g r e (c.in-Some.ensures.some refl)) c.refresh.ensures

pub returns : goal.returns
returns c = going_stop c.loop-c.invariant _ c.in_default.ensures.entry refl
