-- The next place is better than the best, or goes into the table.
use native.Mathlib.Omega.{arith}
use Prim.Native.Nat.{ℕ, ◌+◌, ◌-◌, ◌*◌}
use mathlib.Core.Path.{◌≡◌, refl, sym, ap, ◌∙◌, subst}
use mathlib.Core.Bool.{◌&&◌}
use lib.Dec.{leb}
use mathlib.Core.Logic.{inl, inr}
use lib.ListN.{set}
use Rattle.rules.specs.Plane.{points}
use Rattle.check_laws.specs.Standing.{standing}
use Rattle.check_places.specs.Places.{next_stands, alike_at, Advanced}
use Rattle.check_places.proofs.Stretching.{alike_right}
use Rattle.check_places.proofs.Scanning.{no_better, scan_on, scan_better}
use Rattle.check_places.proofs.scan_next.Goals as goal
use Rattle.check_places.proofs.scan_next.Goals.{Else-better}

-- where the place isn't better, as many of the line's points stand there as of those at the best place
told : (c : Else-better)
    → alike_at (points c.args.width c.args.chain.now) c.args.s.best c.args.s.reached.points c.args.i
    ≡ standing (points c.args.width c.args.chain.now) c.args.turned (points c.args.width c.args.line.now) c.args.i
told c =
    let a = c.args in
    let y = c.requires.2 in
    no_better a.width a.chain.now a.line.now a.turned c.requires.0 a.s y.scanned.reached y.scanned.known.best_numbers a.i
    (ap (λ (m : ℕ). leb a.s.reached.points m && next_stands a.s.reached.next a.chain.now ((a.i + m) * a.width)) (sym c.alike-n.ensures)
    ∙ sym c.better.ensures ∙ c.if-better.false)

pub better-requires : goal.better-requires
better-requires c =
    let a = c.args in
    let g = c.requires.0 in
    (g.two, g.four, g.chain_whole, c.requires.1, omega (arith, c.alike-n.ensures, alike_right (points a.width a.chain.now) a.s.best a.s.reached.points a.i, c.requires.2.scanned.known.short))

pub returns-then-better : goal.returns-then-better
returns-then-better c =
    let a = c.args in
    scan_better a.width a.chain.now a.line.now a.turned c.requires.0 a.near.now a.s c.scan_first.result a.i _ _ c.requires.2 c.scan_first.ensures
    (sym c.better.ensures ∙ c.if-better.true)

pub overflow_cast-near : goal.overflow_cast-near
overflow_cast-near c =
    let a = c.args in
    omega (arith, c.alike-n.ensures, alike_right (points a.width a.chain.now) a.s.best a.s.reached.points a.i, c.requires.2.scanned.known.short)

pub overflow_add-i : goal.overflow_add-i
overflow_add-i c =
    let a = c.args in
    omega (arith, c.requires.1, c.alike-n.ensures, alike_right (points a.width a.chain.now) a.s.best a.s.reached.points a.i, c.requires.2.scanned.known.short)

pub overflow_add-next : goal.overflow_add-next
overflow_add-next c =
    let a = c.args in
    omega (arith, c.requires.1, c.alike-n.ensures, alike_right (points a.width a.chain.now) a.s.best a.s.reached.points a.i, c.requires.2.scanned.known.short)

pub returns-then-s-i : goal.returns-then-s-i
returns-then-s-i c =
    let a = c.args in
    let n = c.alike-n in
    let y = c.requires.2 in
    subst
    (λ (m : ℕ). Advanced a.width a.chain.now a.line.now a.turned (set a.near.now (a.i - a.s.best) m) a.s
    (record { here = m; best = a.s.best; reached = a.s.reached; low = a.i; high = a.i + m }) a.i)
    (sym n.ensures)
    (scan_on a.width a.chain.now a.line.now a.turned c.requires.0 a.near.now a.s a.i y a.i _ (inl (refl, refl)) (told (goal.at.returns-then-s-i c).Else-better))

pub returns-else-s-i : goal.returns-else-s-i
returns-else-s-i c =
    let a = c.args in
    let n = c.alike-n in
    let y = c.requires.2 in
    subst
    (λ (m : ℕ). Advanced a.width a.chain.now a.line.now a.turned (set a.near.now (a.i - a.s.best) m) a.s
    (record { here = m; best = a.s.best; reached = a.s.reached; low = a.s.low; high = a.s.high }) a.i)
    (sym n.ensures)
    (scan_on a.width a.chain.now a.line.now a.turned c.requires.0 a.near.now a.s a.i y a.s.low a.s.high (inr (refl, refl)) (told (goal.at.returns-else-s-i c).Else-better))
