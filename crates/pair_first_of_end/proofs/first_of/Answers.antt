-- Each way through the loop's body is one step of the walk.
use Prim.Native.Nat.{◌+◌}
use mathlib.Core.Path.{◌≡◌, sym, ap, ◌∙◌}
use native.Mathlib.Omega.{arith}
use lib.Ieee.{Float, of_bits, neg}
use borrow.Author.Rules.{rules}
use Rattle.std.specs.Prelude.{true}
use Rattle.pair_first_of_end.specs.Near.{closer_to}
use Rattle.pair_first_of_end.proofs.Measures.{measure_is}
use Rattle.pair_first_of_end.proofs.Walk.{between, walk_start, walk_marked, walk_farther, walk_same, walk_nearer_at, walk_least, walk_done, walk_none}
use Rattle.pair_first_of_end.proofs.first_of.Goals as goal
use Rattle.pair_first_of_end.proofs.first_of.Goals.{After-closer, After-measure-m, In-loop-j}

-- the measure of the row's end with that of a turn
abbrev measured : In-loop-j → Float
measured c = between c.args.w.now c.args.d c.args.i c.loop-j.j

told : (c : After-closer) → closer_to c.loop-j.near (measured (goal.at.After-closer c).In-loop-j) ≡ c.closer.result
told c = sym (c.closer.ensures ∙ ap (closer_to c.loop-j.near) (measure_is c.toward-a.ensures c.toward-b.ensures))

found : (c : After-measure-m) → c.measure-m.result ≡ measured (goal.at.After-measure-m c).In-loop-j
found c = c.measure-m.ensures ∙ measure_is c.toward-a.ensures c.toward-b.ensures

closest : (c : After-measure-m) → closer_to c.loop-j.near c.measure-m.result ≡ true
closest c = ap (closer_to c.loop-j.near) c.measure-m.ensures ∙ sym c.closer.ensures ∙ c.if-not-closer.false

pub returns-then-w-d-ne0 : goal.returns-then-w-d-ne0
returns-then-w-d-ne0 c = walk_none _ _ _ _ c.requires.row c.if-w-d-ne0.true

pub loop-j-init : goal.loop-j-init
loop-j-init c = walk_start _ _ _ _ c.requires (search rules)

pub loop-j-preserved-then-w-d-ne0-2 : goal.loop-j-preserved-then-w-d-ne0-2
loop-j-preserved-then-w-d-ne0-2 c = walk_marked _ _ _ _ c.requires (search rules) _ _ c.loop-j.invariant c.loop-j-test.true c.if-w-d-ne0-2.true

pub loop-j-preserved-then-not-closer : goal.loop-j-preserved-then-not-closer
loop-j-preserved-then-not-closer c =
    walk_farther _ _ _ _ c.requires (search rules) _ _ c.loop-j.invariant c.loop-j-test.true (told (goal.at.loop-j-preserved-then-not-closer c).After-closer ∙ c.if-not-closer.true)

pub loop-j-preserved-then-piece_at-piece : goal.loop-j-preserved-then-piece_at-piece
loop-j-preserved-then-piece_at-piece c =
    walk_same _ _ _ _ c.requires (search rules) _ _ c.loop-j.invariant c.loop-j-test.true (sym c.piece_at.ensures ∙ c.if-piece_at-piece.true ∙ c.piece_at-piece.ensures)

pub returns-then-m : goal.returns-then-m
unfolding of_bits neg
returns-then-m c =
    rw c.hold.ensures
    (walk_least _ _ _ _ _ c.requires (c.loop-j.j + 1)
    (walk_nearer_at _ _ _ _ c.requires (search rules) _ _ c.loop-j.invariant c.loop-j-test.true (found (goal.at.returns-then-m c).After-measure-m) c.if-w-d-ne0.false c.if-w-d-ne0-2.false
    (closest (goal.at.returns-then-m c).After-measure-m) (λ e. c.if-piece_at-piece.false (c.piece_at.ensures ∙ e ∙ sym c.piece_at-piece.ensures)))
    (omega (arith, c.loop-j.invariant.beyond))
    c.if-m.true)

pub loop-j-preserved : goal.loop-j-preserved
loop-j-preserved c =
    walk_nearer_at _ _ _ _ c.requires (search rules) _ _ c.loop-j.invariant c.loop-j-test.true (found (goal.at.loop-j-preserved c).After-measure-m) c.if-w-d-ne0.false c.if-w-d-ne0-2.false
    (closest (goal.at.loop-j-preserved c).After-measure-m) (λ e. c.if-piece_at-piece.false (c.piece_at.ensures ∙ e ∙ sym c.piece_at-piece.ensures))

pub returns : goal.returns
returns c = rw c.hold-2.ensures (walk_done _ _ _ _ _ c.requires _ c.loop-j.invariant c.loop-j-test.false)
