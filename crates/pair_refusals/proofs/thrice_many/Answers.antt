-- As in `thrice_few` no piece stands more than twice among the first i; these are in the table, so that all of a piece's earlier places are in its bucket's chain.
use Prim.Native.Nat.{ℕ}
use mathlib.Core.List.{List}
use mathlib.Core.Path.{◌≡◌, sym, refl}
use native.Mathlib.Omega.{arith}
use lib.ListN.{get_or, take}
use Rattle.rules.specs.Lists.{count}
use Rattle.pair_refusals.proofs.Times.{twice_start, twice_step, twice_all, thrice_here}
use Rattle.pair_refusals.proofs.Links.{table_start, table_chain, table_count, table_step}
use Rattle.pair_refusals.proofs.thrice_many.Goals as goal
use Rattle.pair_refusals.proofs.thrice_many.Goals.{After-bucket-b, At-loop-i}

abbrev pieces_of : At-loop-i → List ℕ
pieces_of l = l.args.pieces.now

-- the piece at i stands as often before i as among those up to its bucket's last
counts : (c : After-bucket-b)
    → count (get_or (pieces_of (goal.at.After-bucket-b c).At-loop-i) c.loop-i.i 0) (take c.loop-i.i (pieces_of (goal.at.After-bucket-b c).At-loop-i))
    ≡ count (get_or (pieces_of (goal.at.After-bucket-b c).At-loop-i) c.loop-i.i 0) (take (get_or c.loop-i.last c.bucket-b.result 0) (pieces_of (goal.at.After-bucket-b c).At-loop-i))
counts c = table_count c.loop-i.invariant.1 _ c.bucket-b.result (sym c.bucket-b.ensures.0) c.bucket-b.ensures.1 (omega arith)

pub loop-i-init : goal.loop-i-init
loop-i-init c = (twice_start c.args.pieces.now, table_start c.args.pieces.now 8192 refl)

pub returns-then-times_linked-gt1 : goal.returns-then-times_linked-gt1
returns-then-times_linked-gt1 c =
    sym (thrice_here (pieces_of (goal.at.returns-then-times_linked-gt1 c).At-loop-i) c.loop-i.i (omega arith) (omega (arith, c.times_linked.ensures, counts (goal.at.returns-then-times_linked-gt1 c).After-bucket-b)))

pub times_linked-requires : goal.times_linked-requires
times_linked-requires c =
    let b = c.bucket-b in
    table_chain c.loop-i.invariant.1 _ b.result (sym b.ensures.0) b.ensures.1 (omega arith) (omega arith)

pub loop-i-preserved : goal.loop-i-preserved
loop-i-preserved c =
    let b = c.bucket-b in (
      twice_step c.loop-i.invariant.0 (omega arith) (omega (arith, c.times_linked.ensures, counts (goal.at.loop-i-preserved c).After-bucket-b)),
      table_step c.loop-i.invariant.1 _ b.result (sym b.ensures.0) b.ensures.1 refl (omega arith),
    )

pub returns : goal.returns
returns c = sym (twice_all c.loop-i.invariant.0 (omega arith))
