-- `join_node` joins what the book joins of the node that e leads, by how many ends stand behind e; an end that leads nothing adds nothing.
use Rattle.std.proofs.Common.{arith, ◌<◌, ◌≤◌, ◌+◌, ◌*◌, ◌≡◌, sym, length}
use Rattle.chain_nodes.proofs.Frames.{ends_few, joins_room}
use Rattle.chain_nodes.proofs.Steps.{step_other, step_alone, next_in, step_own, step_two, step_off, step_junction, step_many}
use Rattle.chain_pieces.specs.Map.{group_block}
use Rattle.chain_grouping.specs.Map.{group_room}
use Rattle.chain_nodes.proofs.join_node.Goals as goal
use Rattle.chain_nodes.proofs.join_node.Goals.{In-Some, Start}

-- there is an end behind e
apart : (c : In-Some) → c.in-Some.f ≡ 0 → ⊥
apart c z = omega (arith, c.in-Some.ensures)

there : (c : In-Some) → (c.args.e < c.in-Some.f) × (c.in-Some.f < c.args.m)
there c = next_in c.requires.0 c.args.e c.requires.1 c.if-w-groups.false _ (sym c.in-Some.ensures.is) (apart c)

-- the groups are inside the workspace
inside : (s : Start) → s.args.n * group_block + s.args.m * group_room ≤ length s.args.w.now
inside s = omega (arith, ends_few s.requires.0, s.requires.0.room)

pub returns-then-w-groups : goal.returns-then-w-groups
returns-then-w-groups c = λ y. step_other y c.args.e c.requires.1 c.if-w-groups.true

pub returns-in_default : goal.returns-in_default
returns-in_default c = λ y. step_alone y c.args.e c.requires.1 c.if-w-groups.false (sym c.in_default.ensures.is)

pub overflow_add-groups-6 : goal.overflow_add-groups-6
overflow_add-groups-6 c = omega (arith, inside (goal.at.overflow_add-groups-6 c).Start, there (goal.at.overflow_add-groups-6 c).In-Some)

pub offset_bounds-w-groups-3 : goal.offset_bounds-w-groups-3
offset_bounds-w-groups-3 c = omega (arith, inside (goal.at.offset_bounds-w-groups-3 c).Start, there (goal.at.offset_bounds-w-groups-3 c).In-Some)

pub bounds-w-groups-3 : goal.bounds-w-groups-3
bounds-w-groups-3 c = omega (arith, inside (goal.at.bounds-w-groups-3 c).Start, there (goal.at.bounds-w-groups-3 c).In-Some)

pub put_join-requires : goal.put_join-requires
put_join-requires c = (joins_room c.requires.0, c.requires.1, (there (goal.at.put_join-requires c).In-Some).1)

pub returns-then-e-f : goal.returns-then-e-f
returns-then-e-f c =
    λ y. step_two y c.args.e c.requires.1 c.if-w-groups.false _ (sym c.in-Some.ensures.is) (apart (goal.at.returns-then-e-f c).In-Some) (sym c.in-None.ensures.is) c.if-e-f.true c.put_join.ensures

pub returns-else-e-f : goal.returns-else-e-f
returns-else-e-f c =
    λ y. step_own y c.args.e c.requires.1 c.if-w-groups.false _ (sym c.in-Some.ensures.is) (apart (goal.at.returns-else-e-f c).In-Some) (sym c.in-None.ensures.is) c.if-e-f.false

pub join_junction-requires : goal.join_junction-requires
join_junction-requires c =
    step_junction c.requires.0 c.args.e c.requires.1 c.if-w-groups.false _ (sym c.in-Some.ensures.is) (apart (goal.at.join_junction-requires c).In-Some) (λ z. omega (arith, c.in-Some-next_end.ensures))
    c.in-Some-limit.is

pub returns-in-Some-limit : goal.returns-in-Some-limit
unfolding step_junction
returns-in-Some-limit c =
    λ y. step_many y c.args.e c.requires.1 c.if-w-groups.false
    (c.join_junction.ensures (step_junction y c.args.e c.requires.1 c.if-w-groups.false _ (sym c.in-Some.ensures.is) (apart (goal.at.returns-in-Some-limit c).In-Some)
    (λ z. omega (arith, c.in-Some-next_end.ensures)) c.in-Some-limit.is))

pub returns-in_default-limit : goal.returns-in_default-limit
returns-in_default-limit c =
    λ y. step_off y c.args.e c.requires.1 c.if-w-groups.false _ (sym c.in-Some.ensures.is) (apart (goal.at.returns-in_default-limit c).In-Some) (λ z. omega (arith, c.in-Some-next_end.ensures)) c.in_default-limit.is
