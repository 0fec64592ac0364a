-- `group` answers the position itself, or the group of the end before it, which is then of one direction with the end here.
use Prim.Native.Nat.{◌-◌}
use native.Mathlib.Omega.{arith}
use mathlib.Core.Path.{refl, sym, ◌∙◌}
use mathlib.Core.Logic.{inl, inr}
use native.Mathlib.Nat.{pos_of_ne-zero}
use Rattle.pair_owners.proofs.Likeness.{alike_like, group_first, group_alike, group_own}
use Rattle.pair_owners.proofs.group.Goals as goal

pub returns-then-p-eq0 : goal.returns-then-p-eq0
returns-then-p-eq0 c = let a = c.args in (group_first a.w.now a.d a.p c.if-p-eq0.true, inl (omega (arith, c.if-p-eq0.true)))

pub alike-requires : goal.alike-requires
alike-requires c = (c.requires.0.room, c.requires.0.order.order_in (c.args.p - 1) (omega (arith, c.requires.1)), c.requires.0.order.order_in c.args.p c.requires.1)

pub overflow_add-result : goal.overflow_add-result
overflow_add-result c = omega (arith, c.requires.0.order.order_in (c.args.p - 1) (omega (arith, c.requires.1)), c.requires.0.room.long)

pub offset_bounds-w-d-then-alike : goal.offset_bounds-w-d-then-alike
offset_bounds-w-d-then-alike c = omega (arith, c.requires.0.order.order_in (c.args.p - 1) (omega (arith, c.requires.1)), c.requires.0.room.long)

pub bounds-w-d-then-alike : goal.bounds-w-d-then-alike
bounds-w-d-then-alike c = omega (arith, c.requires.0.order.order_in (c.args.p - 1) (omega (arith, c.requires.1)), c.requires.0.room.long)

pub returns-then-alike : goal.returns-then-alike
returns-then-alike c = (
  group_alike c.args.w.now c.args.d c.args.p c.if-p-eq0.false c.alike.ensures c.if-alike.true,
  inr (
    pos_of_ne-zero c.if-p-eq0.false,
    refl,
    alike_like c.args.w.now c.args.d _ _ c.requires.0.room (c.requires.0.order.order_in (c.args.p - 1) (omega (arith, c.requires.1))) (c.requires.0.order.order_in c.args.p c.requires.1)
        (sym c.alike.ensures ∙ c.if-alike.true),
  ),
)

pub returns : goal.returns
returns c = (group_own c.args.w.now c.args.d c.args.p c.if-p-eq0.false c.alike.ensures c.if-alike.false, inl refl)
