-- `meet` lists the outer ends of the walks, collects their keys and groups them: `ends_met` says what these are.
use native.Mathlib.Omega.{arith}
use Rattle.chain_meeting.proofs.Ends.{few, listable, collectable, group_room_lem, ends_met}
use Rattle.chain_meeting.proofs.meet.Goals as goal

pub overflow_mul-ends : goal.overflow_mul-ends
overflow_mul-ends c = omega (arith, few c.requires, c.requires.few)

pub list_outer-requires : goal.list_outer-requires
list_outer-requires c = listable c.requires

pub overflow_mul-ends-2 : goal.overflow_mul-ends-2
overflow_mul-ends-2 c = omega (arith, few c.requires, c.requires.few)

pub overflow_add-at : goal.overflow_add-at
overflow_add-at c = omega (arith, few c.requires, c.requires.few)

pub collect_outer-requires : goal.collect_outer-requires
collect_outer-requires c = let y = c.requires in collectable y (c.list_outer.ensures (listable y))

pub group-requires : goal.group-requires
group-requires c =
    let y = c.requires in
    let H = c.list_outer.ensures (listable y) in
    let k = c.collect_outer in
    group_room_lem y H c.args.settings k.auto.w k.ensures

pub returns : goal.returns
returns c =
    λ y.
    let H = c.list_outer.ensures (listable y) in
    let k = c.collect_outer in
    let g = c.group in
    ends_met y H c.args.settings k.auto.w k.ensures g.auto.w g.ensures
