-- Each turn keeps what holds between turns, and where no row holds a pair all are taken.
use Rattle.std.proofs.Common.{arith, rules, ◌≡◌, ◌<◌, ◌≤◌, ◌+◌, ◌*◌, ◌∙◌, refl}
use lib.Dec.{eqb}
use lib.ListN.{get_or}
use mathlib.Core.Bool.{not}
use borrow.Author.Tests.{ne_eqb}
use Rattle.float_order.specs.Key.{key_nan, key}
use Rattle.pair_laws.proofs.Refusals.{limit_under}
use Rattle.pair_ends.specs.Blocks.{partners_from}
use Rattle.pair_first_of_end.specs.Row.{mark_at}
use Rattle.pair_plain.proofs.Starting.{playable}
use Rattle.pair_plain.proofs.Taking.{top_partner, take_fits, all_taken}
use Rattle.pair_plain.proofs.Stale.{take_less, renew_less}
use Rattle.pair_plain.proofs.Route.{walkable_row, going_start, going_renew, going_take, settled_same}
use Rattle.pair_plain.proofs.select.Given
use Rattle.pair_plain.proofs.select.Goals as goal
use Rattle.pair_plain.proofs.select.Goals.{In-Some, Start, then-this-ne0, else-this-ne0}

under : (g : Given.Over) (c : Start g) → key c.args.limit < key_nan
under g c = limit_under c.args.limit (search rules) c.requires.1

-- the row of the least pair held, and its partner
partner : (g : Given.Over) (c : In-Some g) → (c.in-Some.low.place < get_or c.loop-low.w (c.args.d * partners_from + c.in-Some.low.place) 0) × (get_or c.loop-low.w (c.args.d * partners_from + c.in-Some.low.place) 0 < c.args.d)
partner g c = top_partner _ _ _ c.requires.0 (under g (goal.at.In-Some g c).Start) _ _ c.loop-low.invariant.core _ c.in-Some.ensures.is c.in-Some.ensures.some

-- where the partner is free, there is room for the pair
fits : (g : Given.Over) (c : In-Some g) → mark_at c.loop-low.w c.args.d (get_or c.loop-low.w (c.args.d * partners_from + c.in-Some.low.place) 0) ≡ 0 → c.loop-low.n * 2 + 2 ≤ c.args.d
fits g c free = take_fits _ _ _ c.requires.0 (under g (goal.at.In-Some g c).Start) _ _ c.loop-low.invariant.core _ c.in-Some.ensures.is c.in-Some.ensures.some free

pub renew_all-requires : goal.renew_all-requires
renew_all-requires g c = playable _ _ _ _ c.mark_all.auto.w c.requires.0 c.requires.1 c.mark_all.ensures

pub loop-low-init : goal.loop-low-init
loop-low-init g c =
    going_start _ _ _ _ c.requires.0 (under g (goal.at.loop-low-init g c).Start) _ _ _ c.mark_all.auto.w c.mark_all.ensures c.renew_all.auto.w c.renew_all.ensures c.if-this-ne0.auto.w
    (elim c.if-this-ne0.branch [
      | then-this-ne0 w ↦ rw (w.w-is, ne_eqb g.row.BLOCKS 0 w.if-this-ne0.true) w.settle_all.ensures
      | else-this-ne0 w ↦ rw (w.w-is, w.if-this-ne0.false) refl
    ])

pub lowest-requires : goal.lowest-requires
lowest-requires g c = (record { few = c.requires.0.few; long = omega (arith, c.requires.0.long, c.loop-low.invariant.core.long) }, c.loop-low.invariant.lows)

pub overflow_add-d : goal.overflow_add-d
overflow_add-d g c = omega (arith, partner g (goal.at.overflow_add-d g c).In-Some, c.requires.0.few)

pub offset_bounds-w-d-in-Some : goal.offset_bounds-w-d-in-Some
offset_bounds-w-d-in-Some g c = omega (arith, partner g (goal.at.offset_bounds-w-d-in-Some g c).In-Some, c.requires.0.few)

pub bounds-w-d-in-Some : goal.bounds-w-d-in-Some
bounds-w-d-in-Some g c = omega (arith, partner g (goal.at.bounds-w-d-in-Some g c).In-Some, c.requires.0.long, c.loop-low.invariant.core.long)

pub renew-requires : goal.renew-requires
renew-requires g c =
    let s = (goal.at.renew-requires g c).In-Some in
    walkable_row _ _ _ _ c.requires.0 (under g (goal.at.renew-requires g c).Start) _ _ c.loop-low.invariant _ (omega (arith, partner g s)) c.requires.1

pub loop-low-smaller-then-w-d-ne0 : goal.loop-low-smaller-then-w-d-ne0
loop-low-smaller-then-w-d-ne0 g c =
    let s = (goal.at.loop-low-smaller-then-w-d-ne0 g c).In-Some in
    let t = partner g s in
    renew_less _ _ _ _ _ (omega (arith, c.requires.0.long, c.loop-low.invariant.core.long)) (omega (arith, t)) c.renew.ensures _ _ c.settle_row.auto.w
    (settled_same (not (eqb g.row.BLOCKS 0)) _ _ _ c.requires.0 (under g (goal.at.loop-low-smaller-then-w-d-ne0 g c).Start) (not (eqb g.row.BLOCKS 0)) _ _ _ (c.renew.auto.w ∙ c.loop-low.invariant.core.long) (omega (arith, t)) c.settle_row.ensures)
    (omega (arith, (c.in-Some.ensures.is.there c.in-Some.ensures.some).2, c.in-Some.ensures.some))
    t.1
    c.if-w-d-ne0.true

pub loop-low-preserved-then-w-d-ne0 : goal.loop-low-preserved-then-w-d-ne0
loop-low-preserved-then-w-d-ne0 g c =
    let s = (goal.at.loop-low-preserved-then-w-d-ne0 g c).In-Some in
    going_renew _ _ _ _ c.requires.0 (under g (goal.at.loop-low-preserved-then-w-d-ne0 g c).Start) _ _ c.loop-low.invariant _ (omega (arith, partner g s)) _ _ c.renew.ensures c.settle_row.auto.w c.settle_row.ensures

pub take-requires : goal.take-requires
take-requires g c =
    let s = (goal.at.take-requires g c).In-Some in
    let t = partner g s in
    (record { few = c.requires.0.few; long = omega (arith, c.requires.0.long, c.loop-low.invariant.core.long) }, fits g s c.if-w-d-ne0.false, omega (arith, t), t.1)

pub settle_row-requires-else-w-d-ne0-2 : goal.settle_row-requires-else-w-d-ne0-2
settle_row-requires-else-w-d-ne0-2 g c =
    (record { few = c.requires.0.few; long = omega (arith, c.requires.0.long, c.loop-low.invariant.core.long, c.take.auto.w, c.settle_row-else-w-d-ne0.auto.w) }, (partner g (goal.at.settle_row-requires-else-w-d-ne0-2 g c).In-Some).1)

pub overflow_add-n : goal.overflow_add-n
overflow_add-n g c = omega (arith, fits g (goal.at.overflow_add-n g c).In-Some c.if-w-d-ne0.false, c.requires.0.few)

pub loop-low-smaller : goal.loop-low-smaller
loop-low-smaller g c = take_less _ _ _ _ (omega (arith, fits g (goal.at.loop-low-smaller g c).In-Some c.if-w-d-ne0.false))

pub loop-low-preserved : goal.loop-low-preserved
loop-low-preserved g c =
    going_take _ _ _ _ c.requires.0 (under g (goal.at.loop-low-preserved g c).Start) _ _ c.loop-low.invariant _ c.in-Some.ensures.is c.in-Some.ensures.some c.if-w-d-ne0.false _ _ _ c.take.ensures
    c.settle_row-else-w-d-ne0.auto.w c.settle_row-else-w-d-ne0.ensures c.settle_row-else-w-d-ne0-2.auto.w c.settle_row-else-w-d-ne0-2.ensures

pub returns : goal.returns
returns g c = all_taken _ _ _ c.requires.0 (under g (goal.at.returns g c).Start) _ _ c.loop-low.invariant.core _ c.in_default.ensures.is (omega arith)
