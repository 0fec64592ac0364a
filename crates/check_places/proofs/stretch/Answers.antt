-- Point by point, as long as both are equal.
use Prim.Native.Nat.{◌+◌}
use native.Mathlib.Omega.{arith}
use mathlib.Core.Path.{sym, ◌∙◌}
use Rattle.check_places.proofs.Reading.{whole_next}
use Rattle.check_places.proofs.Stretching.{stretch_start, stretch_next, stretch_stop, stretch_end}
use Rattle.check_places.proofs.stretch.Goals as goal

pub loop-k-init : goal.loop-k-init
loop-k-init c = let a = c.args in stretch_start a.width a.chain.now a.i a.best a.n a.count c.requires

pub stands-requires : goal.stands-requires
stands-requires c =
    let a = c.args in
    let g = c.requires in
    λ h. omega (arith, g.two, whole_next a.width a.chain.now g.chain_whole (a.i + c.loop-k.k) h)

pub returns-then-not-stands : goal.returns-then-not-stands
returns-then-not-stands c =
    let a = c.args in
    let l = c.loop-k in
    stretch_stop a.width a.chain.now a.i a.best a.n a.count c.requires l.k l.invariant (omega arith) (sym c.stands.ensures ∙ c.if-not-stands.true)

pub loop-k-preserved : goal.loop-k-preserved
loop-k-preserved c =
    let a = c.args in
    let l = c.loop-k in
    stretch_next a.width a.chain.now a.i a.best a.n a.count c.requires l.k l.invariant (omega arith) (sym c.stands.ensures ∙ c.if-not-stands.false)

pub returns : goal.returns
returns c =
    let a = c.args in
    let l = c.loop-k in
    omega (arith, l.invariant.few, stretch_end a.width a.chain.now a.i a.best a.n a.count c.requires l.k l.invariant (omega arith))
