-- All walks: between two starts the workspace is a `Bench`, with the walks of the starts below s written and their pieces marked. A marked start has
-- its walk already; another's walk goes behind the others, and room is left for it because no piece is walked twice.
use Prim.Native.Nat.{◌≤◌, ◌<◌, ◌+◌}
use mathlib.Core.Path.{◌≡◌, ap, ◌∙◌}
use native.Mathlib.Omega.{arith}
use lib.ListN.{length}
use Rattle.chain_laws.specs.Table.{head_of}
use Rattle.chain_walks.specs.Walks.{joins_of}
use Rattle.chain_walks.proofs.Starts.{Bench, bench_start, bench_skip, bench_done, joins_same, walkable, count_fits, r_fits, walked_size, bench_walk}
use Rattle.chain_walks.proofs.walk_all.Goals as goal
use Rattle.chain_walks.proofs.walk_all.Goals.{After-walk_on-r, At-loop-s, then-w-n-ne1, else-w-n-ne1}

-- the state at the loop's test
bench : (l : At-loop-s) → Bench l.args.w.now l.args.n l.requires l.loop-s.w l.loop-s.s l.loop-s.at l.loop-s.c
bench l = l.loop-s.invariant l.requires

same : (l : At-loop-s) → joins_of l.args.n l.loop-s.w ≡ joins_of l.args.n l.args.w.now
same l = joins_same l.args.w.now l.args.n l.requires l.loop-s.w l.loop-s.s l.loop-s.at l.loop-s.c (bench l)

-- after the walk of a start that was not marked
module _ (k : After-walk_on-r) where
  abbrev loop-of : At-loop-s
  loop-of = (goal.at.After-walk_on-r k).At-loop-s

  headed : k.head-e.result ≡ head_of (joins_of k.args.n k.args.w.now) k.args.n k.loop-s.s
  headed = k.head-e.ensures ∙ ap (λ t. head_of t k.args.n k.loop-s.s) (same loop-of)

  few : k.loop-s.c < k.args.n
  few = count_fits k.args.w.now k.args.n k.requires k.loop-s.w k.loop-s.s k.loop-s.at k.loop-s.c (bench loop-of) k.loop-s-test.true k.if-w-n-ne1.true

  filled : k.loop-s.at + k.walk_on-r.result ≤ k.args.n
  filled =
      r_fits k.args.w.now k.args.n k.requires k.loop-s.w k.loop-s.s k.loop-s.at k.loop-s.c (bench loop-of) k.loop-s-test.true k.if-w-n-ne1.true
      k.head-e.result headed k.walk_on-r.new.w k.walk_on-r.result k.walk_on-r.ensures

  sized : length k.walk_on-r.new.w ≡ length k.args.w.now
  sized =
      walked_size k.args.w.now k.args.n k.requires k.loop-s.w k.loop-s.s k.loop-s.at k.loop-s.c (bench loop-of) k.loop-s-test.true k.if-w-n-ne1.true
      k.head-e.result headed k.walk_on-r.new.w k.walk_on-r.result k.walk_on-r.ensures

pub loop-s-init : goal.loop-s-init
loop-s-init c = λ y. bench_start c.args.w.now c.args.n y

pub head-e-requires : goal.head-e-requires
head-e-requires c = (rw (same (goal.at.head-e-requires c).At-loop-s) c.requires.table, c.loop-s-test.true)

pub walk_on-r-requires : goal.walk_on-r-requires
walk_on-r-requires c =
    walkable c.args.w.now c.args.n c.requires c.loop-s.w c.loop-s.s c.loop-s.at c.loop-s.c (bench (goal.at.walk_on-r-requires c).At-loop-s)
    c.loop-s-test.true c.if-w-n-ne1.true c.head-e.result
    (c.head-e.ensures ∙ ap (λ t. head_of t c.args.n c.loop-s.s) (same (goal.at.walk_on-r-requires c).At-loop-s))

pub overflow_add-w : goal.overflow_add-w
overflow_add-w c = omega (arith, c.requires.table.small, few (goal.at.overflow_add-w c).After-walk_on-r)

pub offset_bounds-w-n-then-w-n-ne1 : goal.offset_bounds-w-n-then-w-n-ne1
offset_bounds-w-n-then-w-n-ne1 c = omega (arith, c.requires.table.small, few (goal.at.offset_bounds-w-n-then-w-n-ne1 c).After-walk_on-r)

pub bounds-w-n-then-w-n-ne1 : goal.bounds-w-n-then-w-n-ne1
bounds-w-n-then-w-n-ne1 c = omega (arith, c.requires.room, few (goal.at.bounds-w-n-then-w-n-ne1 c).After-walk_on-r, sized (goal.at.bounds-w-n-then-w-n-ne1 c).After-walk_on-r)

pub overflow_add-at : goal.overflow_add-at
overflow_add-at c = omega (arith, c.requires.table.small, filled (goal.at.overflow_add-at c).After-walk_on-r)

pub overflow_add-c : goal.overflow_add-c
overflow_add-c c = omega (arith, c.requires.table.small, few (goal.at.overflow_add-c c).After-walk_on-r)

pub loop-s-preserved : goal.loop-s-preserved
loop-s-preserved c =
    λ y. elim c.if-w-n-ne1.branch [
      | then-w-n-ne1 u ↦
          rw (u.w-is, u.at-is, u.c-is)
          (bench_walk c.args.w.now c.args.n y c.loop-s.w c.loop-s.s c.loop-s.at c.loop-s.c (c.loop-s.invariant y) c.loop-s-test.true u.if-w-n-ne1.true
          u.head-e.result (u.head-e.ensures ∙ ap (λ t. head_of t c.args.n c.loop-s.s) (same (goal.at.loop-s-preserved c).At-loop-s))
          u.walk_on-r.new.w u.walk_on-r.result u.walk_on-r.ensures)
      | else-w-n-ne1 u ↦
          rw (u.w-is, u.at-is, u.c-is)
          (bench_skip c.args.w.now c.args.n y c.loop-s.w c.loop-s.s c.loop-s.at c.loop-s.c (c.loop-s.invariant y) c.loop-s-test.true u.if-w-n-ne1.false)
    ]

pub returns : goal.returns
returns c =
    bench_done c.args.w.now c.args.n c.requires c.loop-s.w c.loop-s.s c.loop-s.at c.loop-s.c (bench (goal.at.returns c).At-loop-s) c.loop-s-test.false
