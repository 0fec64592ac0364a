-- The line is read from its beginning, or from its end where it is turned; a point is dropped, or kept where it stands, or ends the run. What is left is the measure.
use Prim.Native.Nat.{ℕ, ◌+◌, ◌*◌, ◌<◌}
use native.Mathlib.Omega.{arith}
use mathlib.Core.Path.{sym, ap, ◌∙◌}
use lib.ListN.{length, get_or}
use Rattle.check_places.proofs.Reading.{whole_next, reading_start, reading_repeat, reading_next, reading_stop, reading_end}
use Rattle.check_places.proofs.reach.Goals as goal

pub loop-left-init : goal.loop-left-init
loop-left-init c =
    let a = c.args in
    reading_start a.width a.chain.now a.line.now a.turned a.at c.requires.0

pub loop-left-preserved-then-repeats : goal.loop-left-preserved-then-repeats
loop-left-preserved-then-repeats c =
    let a = c.args in
    let l = c.loop-left in
    let p = c.next_point-p in
    reading_repeat a.width a.chain.now a.line.now a.turned a.at c.requires.0 l.c l.points l.kept l.left l.invariant (omega arith) (get_or a.line.now p.result 0) (get_or a.line.now (p.result + 1) 0) (ap (λ (i : ℕ). get_or a.line.now i 0) p.ensures) (ap (λ (i : ℕ). get_or a.line.now (i + 1) 0) p.ensures)
    (sym c.repeats.ensures ∙ c.if-repeats.true)

pub stands-requires : goal.stands-requires
stands-requires c =
    let a = c.args in
    let l = c.loop-left in
    λ h. let q : (a.at + l.points) * a.width < length a.chain.now = omega (arith, l.invariant.number) in
    omega (arith, l.invariant.number, c.requires.0.two, whole_next a.width a.chain.now c.requires.0.chain_whole (a.at + l.points) q)

pub returns-then-not-stands : goal.returns-then-not-stands
returns-then-not-stands c =
    let a = c.args in
    let l = c.loop-left in
    let p = c.next_point-p in
    reading_stop a.width a.chain.now a.line.now a.turned a.at c.requires.0 l.c l.points l.kept l.left l.invariant (omega arith) (get_or a.line.now p.result 0) (get_or a.line.now (p.result + 1) 0) (ap (λ (i : ℕ). get_or a.line.now i 0) p.ensures) (ap (λ (i : ℕ). get_or a.line.now (i + 1) 0) p.ensures)
    (sym c.repeats.ensures ∙ c.if-repeats.false) (sym c.stands.ensures ∙ c.if-not-stands.true)

pub loop-left-preserved : goal.loop-left-preserved
loop-left-preserved c =
    let a = c.args in
    let l = c.loop-left in
    let p = c.next_point-p in
    reading_next a.width a.chain.now a.line.now a.turned a.at c.requires.0 l.c l.points l.kept l.left l.invariant (omega arith) (get_or a.line.now p.result 0) (get_or a.line.now (p.result + 1) 0) (ap (λ (i : ℕ). get_or a.line.now i 0) p.ensures) (ap (λ (i : ℕ). get_or a.line.now (i + 1) 0) p.ensures)
    (sym c.repeats.ensures ∙ c.if-repeats.false) (sym c.stands.ensures ∙ c.if-not-stands.false)

pub returns : goal.returns
returns c =
    let a = c.args in
    let l = c.loop-left in
    reading_end a.width a.chain.now a.line.now a.turned a.at c.requires.0 l.c l.points l.kept l.left l.invariant (omega arith)
