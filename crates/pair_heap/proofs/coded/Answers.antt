use mathlib.Core.Path.{◌≡◌, sym, subst, ap, ◌∙◌}
use Prim.Native.Nat.{◌<◌, ◌+◌, ◌*◌}
use native.Mathlib.Omega.{arith}
use lib.Dec.{eqb}
use mir.Val.{bool_byte}
use Rattle.std.specs.Prelude.{Option}
use Rattle.pair_tree.specs.Places.{worth}
use Rattle.pair_index.specs.declared.Best.{Best}
use Rattle.pair_index.specs.Index.{pair_of}
use Rattle.pair_heap.specs.Heap.{coded}
use Rattle.pair_heap.proofs.Top.{coded_none, coded_is}
use Rattle.pair_heap.proofs.coded.Goals as goal

pub returns-in_default : goal.returns-in_default
returns-in_default c = c.none.ensures ∙ sym (coded_none c.args.o (pair_of c.args.b) (ap (λ (v : Option Best). (pair_of v).j) c.in_default.is))

pub returns-then-b-eq0 : goal.returns-then-b-eq0
returns-then-b-eq0 c = c.none-then-b-eq0.ensures ∙ sym (coded_none c.args.o (pair_of c.args.b) (ap (λ (v : Option Best). (pair_of v).j) c.in-Some.is ∙ c.if-b-eq0.true))

pub returns-else-b-eq0 : goal.returns-else-b-eq0
returns-else-b-eq0 c =
    let b = c.in-Some.b in
    let r : Option Best → Type 0 = λ v. worth (record { key = b.key; tie = (b.i * 8192 + b.j) * 2 + bool_byte (eqb c.args.o b.j) }) ≡ coded c.args.o (pair_of v) in
    let some : 0 < b.j = omega (arith, c.if-b-eq0.false) in
    subst r (sym c.in-Some.is) (coded_is c.args.o (record { key = b.key; i = b.i; j = b.j }) some)
