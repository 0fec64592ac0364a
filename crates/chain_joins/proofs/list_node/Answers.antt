-- `list_node` follows the list behind the leader. What it writes stands below the groups, so that every word it reads is as it was.
use Rattle.std.proofs.Common.{arith, ◌≡◌, ◌<◌, ℕ, sym, ◌∙◌, subst}
use lib.ListN.{drop, length-set}
use Rattle.chain_joins.specs.Node.{node_of}
use Rattle.point_slices.specs.Holds.{HoldsFrom}
use Rattle.chain_joins.proofs.Listing.{way_start, way_next, way_step, way_stop, way_end}
use Rattle.chain_joins.proofs.list_node.Goals as goal
use Rattle.chain_joins.proofs.list_node.Goals.{At-loop-d}

-- the end that is written
below : (c : At-loop-d) → c.loop-d.f < c.args.m
below c = (c.loop-d.invariant c.requires).within

pub loop-d-init : goal.loop-d-init
loop-d-init c = λ L. way_start L

pub overflow_add-at-in-loop-d : goal.overflow_add-at-in-loop-d
overflow_add-at-in-loop-d c = omega (arith, below (goal.at.overflow_add-at-in-loop-d c).At-loop-d, c.requires.room)

pub offset_bounds-w-at : goal.offset_bounds-w-at
offset_bounds-w-at c = omega (arith, below (goal.at.offset_bounds-w-at c).At-loop-d, c.requires.room)

pub bounds-w-at : goal.bounds-w-at
bounds-w-at c = simp length-set (omega (arith, below (goal.at.bounds-w-at c).At-loop-d, c.requires.room))

pub returns-in_default : goal.returns-in_default
returns-in_default c =
    let w = c.loop-d.invariant c.requires in
    way_stop c.requires w c.loop-d-test.true (sym (way_next c.requires w c.loop-d-test.true) ∙ sym c.in_default.ensures.is)

pub loop-d-preserved : goal.loop-d-preserved
loop-d-preserved c = λ L.
    let t = c.loop-d-test.true in
    way_step L (c.loop-d.invariant L) t _ (sym (way_next L (c.loop-d.invariant L) t) ∙ sym c.in-Some.ensures.is) c.in-Some.ensures.some

pub returns : goal.returns
returns c =
    let e : c.loop-d.d ≡ c.args.m = omega arith in
    subst (λ (d : ℕ). HoldsFrom c.loop-d.w c.args.w.now c.args.list d (node_of (drop c.args.at c.args.w.now) c.args.m c.args.e)) e (way_end c.requires (c.loop-d.invariant c.requires) c.loop-d-test.false)
