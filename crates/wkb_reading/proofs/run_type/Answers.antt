-- The first record is the beginning of the run; its length fits, since it is one of those that add up to the run's.
use Prim.Native.Nat.{ℕ}
use mathlib.Core.Path.{sym, ap, ◌∙◌}
use native.Mathlib.Omega.{arith}
use lib.ListN.{take}
use lib.Seq.{length-take-le}
use Rattle.std.specs.Option.{option_copied}
use Rattle.rules.specs.Wkb.{type_of}
use Rattle.wkb_reading.proofs.Laws.{total_drop, first_is, first_none, type_none, type_short, type_first}
use Rattle.wkb_reading.proofs.run_type.Goals as goal

pub returns-in_default : goal.returns-in_default
returns-in_default c = let a = c.args in sym (type_none a.lengths.now a.run.now (first_none a.lengths.now (sym (ap option_copied c.in_default.is) ∙ c.first.ensures.value)))

pub returns-then-to-lt-HEADER : goal.returns-then-to-lt-HEADER
returns-then-to-lt-HEADER c =
    let a = c.args in
    let f = first_is a.lengths.now _ c.in-Some.ensures.value in
    sym (type_short a.lengths.now a.run.now f.0 c.requires (omega arith))

pub slice_bounds-word-end : goal.slice_bounds-word-end
slice_bounds-word-end c =
    let a = c.args in
    let f = first_is a.lengths.now _ c.in-Some.ensures.value in
    sym (length-take-le _ a.run.now (omega (arith, total_drop a.lengths.now 0 f.0, c.requires)))

pub word-requires : goal.word-requires
word-requires c =
    let a = c.args in
    let f = first_is a.lengths.now _ c.in-Some.ensures.value in
    omega (arith, length-take-le c.in-Some.first.now a.run.now (omega (arith, total_drop a.lengths.now 0 f.0, c.requires)))

pub returns : goal.returns
unfolding type_of
returns c =
    let a = c.args in
    let f = first_is a.lengths.now _ c.in-Some.ensures.value in
    c.word.ensures ∙ ap (λ (n : ℕ). type_of (take n a.run.now)) f.1 ∙ sym (type_first a.lengths.now a.run.now f.0 c.requires (omega arith))
