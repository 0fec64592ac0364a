-- Three numbers are stored, which is the point where it has three, one more, which it is where it has four, and then all others.
use Prim.Native.Nat.{◌+◌, ◌-◌}
use mathlib.Core.Path.{◌≡◌, ◌∙◌}
use native.Mathlib.Omega.{arith}
use lib.ListN.{length-set}
use borrow.Rule.Slice.PartMut.{mid_len}
use Rattle.point_slices.proofs.Laws.{three_put, four_put, part_stored, part_then}
use Rattle.point_slices.proofs.put_high.Goals as goal

pub bounds-rest-at-2 : goal.bounds-rest-at-2
bounds-rest-at-2 c = simp length-set (omega arith)

pub bounds-rest-at-3 : goal.bounds-rest-at-3
bounds-rest-at-3 c = simp length-set (omega arith)

pub returns-then-width-eq3 : goal.returns-then-width-eq3
returns-then-width-eq3 c =
    let a = c.args in
    rw c.if-width-eq3.true (three_put a.rest.now a.src.now a.at a.j (omega (arith, c.requires.1, c.if-width-eq3.true)) (omega (arith, c.requires.2, c.if-width-eq3.true)))

pub bounds-rest-at-4 : goal.bounds-rest-at-4
bounds-rest-at-4 c = simp length-set (omega arith)

pub returns-then-width-eq4 : goal.returns-then-width-eq4
returns-then-width-eq4 c =
    let a = c.args in
    rw c.if-width-eq4.true (four_put a.rest.now a.src.now a.at a.j (omega (arith, c.requires.1, c.if-width-eq4.true)) (omega (arith, c.requires.2, c.if-width-eq4.true)))

pub copy_into-requires : goal.copy_into-requires
copy_into-requires c =
    simp length-set (omega (arith, mid_len (c.args.j + 4) (c.args.j + c.args.width) c.args.src.now c.requires.2, c.requires.0, c.requires.1, c.if-width-eq3.false, c.if-width-eq4.false))

pub shape_of-rest : goal.shape_of-rest
shape_of-rest c = c.copy_into.auto.dst ∙ simp length-set

pub returns : goal.returns
returns c =
    let a = c.args in
    let n = a.width - 4 in
    let four = four_put a.rest.now a.src.now a.at a.j (omega (arith, c.requires.0, c.requires.1, c.if-width-eq3.false, c.if-width-eq4.false)) (omega (arith, c.requires.0, c.requires.2, c.if-width-eq3.false, c.if-width-eq4.false)) in
    let e : a.j + a.width ≡ a.j + 4 + n = omega (arith, c.requires.0, c.if-width-eq3.false, c.if-width-eq4.false) in
    part_then a.src.now a.j a.width four (omega (arith, c.requires.0, c.requires.1))
    (part_stored a.src.now (a.j + 4) n (omega (arith, e, c.requires.2)) (rw e at c.copy_into.ensures)) (omega (arith, e))
