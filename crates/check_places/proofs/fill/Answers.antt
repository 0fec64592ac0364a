-- Place after place.
use native.Mathlib.Omega.{arith}
use Rattle.check_places.proofs.Filling.{filling_start, filling_ahead, filling_next}
use Rattle.check_places.proofs.fill.Goals as goal

pub loop-i-init : goal.loop-i-init
loop-i-init c =
    let a = c.args in
    let s = c.scan_first-s in
    filling_start a.width a.chain.now a.line.now a.turned c.requires.0 a.from a.fits.now a.near.now s.result c.fit.result (omega arith) (omega arith) s.ensures c.fit.ensures

pub scan_next-s-requires : goal.scan_next-s-requires
scan_next-s-requires c =
    let a = c.args in
    let o = c.loop-i in
    (c.requires.0, omega (arith, c.requires.1), filling_ahead a.width a.chain.now a.line.now a.turned c.requires.0 a.from o.fits o.near o.s o.i o.invariant (omega arith))

pub loop-i-preserved : goal.loop-i-preserved
loop-i-preserved c =
    let a = c.args in
    let o = c.loop-i in
    let s = c.scan_next-s in
    filling_next a.width a.chain.now a.line.now a.turned c.requires.0 a.from o.fits o.near o.s o.i o.invariant (omega arith) _ s.result c.fit-in-loop-i.result s.ensures c.fit-in-loop-i.ensures
