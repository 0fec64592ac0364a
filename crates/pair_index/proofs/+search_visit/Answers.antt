-- The search finds the first of the best so far and of all pairs below a node: by the height, which falls from a node to its children, each way out is a law
-- of Steps.
use Prim.Native.Nat.{ℕ, ◌≤◌, min}
use native.Mathlib.Nat.{pos_of_ne-zero}
use native.Mathlib.Omega.{arith}
use mathlib.Core.Path.{ap, ◌∙◌}
use Rattle.pair_tree.specs.Places.{worth, gone}
use Rattle.pair_tree.proofs.Order.{less_is, min_is}
use Rattle.pair_index.proofs.Steps.{has, ready_left, ready_right, tie_below, leaf_pair, settled_either, at_bound, passed_over, both_ways, both_turned, test_before, test_after, test_same}
use Rattle.pair_index.proofs.+search_visit.Goals as goal
use Rattle.pair_index.proofs.+search_visit.Goals.{search-Start}

-- the words of the two places
small : {t : ℕ} (c : search-Start t) → (c.args.at.tie ≤ gone) × ((c.args.best.key ≤ gone) × (c.args.best.tie ≤ gone))
small c = (omega (arith, c.well_formed), (omega (arith, c.well_formed), omega (arith, c.well_formed)))

pub search-pair_with-requires : goal.search-pair_with-requires
search-pair_with-requires t c =
    let s = small (goal.at.search-pair_with-requires t c).Start in
    (c.requires.0.room, tie_below c.requires.0 c.args.a.now.own _ _ _ _ s.0 s.1 c.requires.1 c.requires.2)

pub search-returns-then-height-eq0 : goal.search-returns-then-height-eq0
search-returns-then-height-eq0 t c =
    let s = small (goal.at.search-returns-then-height-eq0 t c).Start in
    ap worth c.min.ensures ∙ min_is c.args.best c.pair_with.result s.1.1 (omega arith) ∙ ap (min (worth c.args.best))
    (leaf_pair c.requires.0 c.args.a.now.own _ _ _ _ s.0 s.1 c.requires.1 c.requires.2 c.if-height-eq0.true _ c.pair_with.ensures)

pub search-settled-found-requires : goal.search-settled-found-requires
search-settled-found-requires t c =
    let s = small (goal.at.search-settled-found-requires t c).Start in
    (c.requires.0.room, tie_below c.requires.0 c.args.a.now.own _ _ _ _ s.0 s.1 c.requires.1 c.requires.2, omega (arith, (has c.requires.0).inside))

pub search-returns-then-same : goal.search-returns-then-same
search-returns-then-same t c =
    let a = c.args in
    let b = a.a.now in
    let s = small (goal.at.search-returns-then-same t c).Start in
    at_bound c.requires.0 b.own _ _ _ _ s.0 s.1 c.requires.1 c.requires.2 _ (settled_either a.w.now b.t a.n b.d b.ax b.ay b.own a.at.tie c.settled-found.ensures) (test_same _ _ c.same.ensures c.if-same.true)

pub search-overflow_mul-l : goal.search-overflow_mul-l
search-overflow_mul-l t c = omega (arith, (has (ready_right c.requires.0 (pos_of_ne-zero c.if-height-eq0.false))).inside, c.well_formed)

pub search-overflow_add-r : goal.search-overflow_add-r
search-overflow_add-r t c = omega (arith, (has (ready_right c.requires.0 (pos_of_ne-zero c.if-height-eq0.false))).inside, c.well_formed)

pub search-overflow_sub-down : goal.search-overflow_sub-down
search-overflow_sub-down t c = omega (arith, pos_of_ne-zero c.if-height-eq0.false)

pub search-reach-left-requires : goal.search-reach-left-requires
search-reach-left-requires t c = (has (ready_left c.requires.0 (pos_of_ne-zero c.if-height-eq0.false)), c.requires.0.note)

pub search-reach-right-requires : goal.search-reach-right-requires
search-reach-right-requires t c = (has (ready_right c.requires.0 (pos_of_ne-zero c.if-height-eq0.false)), c.requires.0.note)

pub search-visit-one-requires : goal.search-visit-one-requires
search-visit-one-requires t c =
    let p = pos_of_ne-zero c.if-height-eq0.false in
    (omega (arith, p), (ready_right c.requires.0 p, c.reach-right.ensures))

pub search-visit-requires : goal.search-visit-requires
search-visit-requires t c =
    let p = pos_of_ne-zero c.if-height-eq0.false in
    (omega (arith, p), (ready_left c.requires.0 p, c.reach-left.ensures))

pub search-returns-then-lt : goal.search-returns-then-lt
search-returns-then-lt t c = both_turned c.requires.0 c.args.a.now.own _ _ _ (pos_of_ne-zero c.if-height-eq0.false) c.visit-one.ensures c.visit.ensures

pub search-visit-one-requires-2 : goal.search-visit-one-requires-2
search-visit-one-requires-2 t c =
    let p = pos_of_ne-zero c.if-height-eq0.false in
    (omega (arith, p), (ready_left c.requires.0 p, c.reach-left.ensures))

pub search-visit-requires-2 : goal.search-visit-requires-2
search-visit-requires-2 t c =
    let p = pos_of_ne-zero c.if-height-eq0.false in
    (omega (arith, p), (ready_right c.requires.0 p, c.reach-right.ensures))

pub search-returns : goal.search-returns
search-returns t c = both_ways c.requires.0 c.args.a.now.own _ _ _ (pos_of_ne-zero c.if-height-eq0.false) c.visit-one-2.ensures c.visit-2.ensures

pub visit-search-requires : goal.visit-search-requires
visit-search-requires t c =
    (omega arith, (c.requires.0, c.requires.1, test_before _ _ (c.lt.ensures ∙ less_is c.args.at c.args.best (omega (arith, c.well_formed)) (omega (arith, c.well_formed))) c.if-lt.true))

pub visit-returns : goal.visit-returns
visit-returns t c = passed_over c.requires.0 c.args.a.now.own _ _ c.requires.1 (test_after _ _ (c.lt.ensures ∙ less_is c.args.at c.args.best (omega (arith, c.well_formed)) (omega (arith, c.well_formed))) c.if-lt.false)
