-- A point with another x than the last one's is new. One with the same x, but for the sign, is held against the last one.
use Prim.Native.Nat.{◌^◌, ◌≤◌, ◌<◌}
use mathlib.Core.Path.{sym, ◌∙◌}
use native.Mathlib.Omega.{arith}
use lib.ListN.{length, get_or}
use Rattle.point_slices.proofs.Runs.{high_two, last_at, apart_at, pushed_met, pushed_new}
use Rattle.point_slices.proofs.next_high.Goals as goal
use Rattle.point_slices.proofs.next_high.Goals.{then-src-j+else-equal, else-src-j}

pub returns-then-equal : goal.returns-then-equal
returns-then-equal c =
    let a = c.args in
    pushed_met a.width (high_two c.requires.0) a.rest.now a.have a.src.now a.j (omega (arith, c.requires.2)) (omega (arith, c.type_inv.src a.j))
    c.requires.1 (c.requires.4 c.requires.1).0 (sym c.equal.ensures ∙ c.if-equal.true)

pub returns : goal.returns
returns c =
    let a = c.args in
    let two = high_two c.requires.0 in
    let room : a.have ≤ length a.rest.now = omega (arith, c.requires.2) in
    let fits : get_or a.src.now a.j 0 < 2 ^ 64 = omega (arith, c.type_inv.src a.j) in
    pushed_new a.width two a.rest.now a.have a.src.now a.j room fits c.requires.3 c.put_high.ensures
    (elim c.if-src-j.branch [
      | then-src-j+else-equal w ↦ last_at a.width two a.rest.now a.have a.src.now a.j room c.requires.1 ∙ sym w.equal.ensures ∙ w.if-equal.false
      | else-src-j w ↦ apart_at a.width two a.rest.now a.have a.src.now a.j room fits a.last c.requires.4 w.if-src-j.false
    ])
