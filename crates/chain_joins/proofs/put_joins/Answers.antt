-- `put_joins` fills the table pair by pair; the pairs and the list stand beyond the table and stay as they were.
use Rattle.std.proofs.Common.{arith}
use Rattle.chain_joins.proofs.Putting.{Putting, putting_start, putting_step, putting_done, first_place_lem, second_place, first_end, second_end}
use Rattle.chain_joins.proofs.put_joins.Goals as goal
use Rattle.chain_joins.proofs.put_joins.Goals.{At-loop-k}

abbrev here : (c : At-loop-k) → Putting c.requires c.loop-k.w c.loop-k.k
here c = c.loop-k.invariant c.requires

pub loop-k-init : goal.loop-k-init
loop-k-init c = λ P. putting_start P

pub overflow_add-a : goal.overflow_add-a
overflow_add-a c = omega (arith, first_place_lem c.requires (here (goal.at.overflow_add-a c).At-loop-k) c.loop-k-test.true)

pub offset_bounds-w-list : goal.offset_bounds-w-list
offset_bounds-w-list c = omega (arith, first_place_lem c.requires (here (goal.at.offset_bounds-w-list c).At-loop-k) c.loop-k-test.true)

pub bounds-w-list : goal.bounds-w-list
bounds-w-list c = omega (arith, first_place_lem c.requires (here (goal.at.bounds-w-list c).At-loop-k) c.loop-k-test.true)

pub overflow_add-b : goal.overflow_add-b
overflow_add-b c = omega (arith, second_place c.requires (here (goal.at.overflow_add-b c).At-loop-k) c.loop-k-test.true)

pub offset_bounds-w-list-in-loop-k : goal.offset_bounds-w-list-in-loop-k
offset_bounds-w-list-in-loop-k c =
    omega (arith, second_place c.requires (here (goal.at.offset_bounds-w-list-in-loop-k c).At-loop-k) c.loop-k-test.true)

pub bounds-w-list-in-loop-k : goal.bounds-w-list-in-loop-k
bounds-w-list-in-loop-k c = omega (arith, second_place c.requires (here (goal.at.bounds-w-list-in-loop-k c).At-loop-k) c.loop-k-test.true)

pub put_join-requires : goal.put_join-requires
put_join-requires c =
    let h = here (goal.at.put_join-requires c).At-loop-k in
    (omega arith, first_end c.requires h c.loop-k-test.true, second_end c.requires h c.loop-k-test.true)

pub loop-k-preserved : goal.loop-k-preserved
loop-k-preserved c = λ P. putting_step P (c.loop-k.invariant P) c.loop-k-test.true c.put_join.ensures

pub returns : goal.returns
returns c = putting_done c.requires (here (goal.at.returns c).At-loop-k) c.loop-k-test.false
