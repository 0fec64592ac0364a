-- `root::scaled` meets its contract: the radicand is the same number with an even power of two taken out.
use mathlib.Core.Path.{sym, ap, ◌∙◌}
use Prim.Native.Nat.{◌-◌, ◌*◌, ◌%◌, ◌≤◌}
use native.Mathlib.Omega.{arith}
use lib.Ieee.{binary64}
use Rattle.rules.specs.Root.{root_units}
use Rattle.float_root.proofs.Shift.{taken_either, at_most_twice}
use Rattle.float_root.proofs.scaled.Goals as goal

pub overflow_mul-b : goal.overflow_mul-b
overflow_mul-b c =
    let a = c.shifted-a.result in
    omega (arith, at_most_twice a.m (c.args.j - a.s))

pub overflow_add-b : goal.overflow_add-b
overflow_add-b c =
    let a = c.shifted-a.result in
    omega (arith, at_most_twice a.m (c.args.j - a.s))

pub assemble-requires : goal.assemble-requires
assemble-requires c =
    let a = c.shifted-a.result in
    let l : a.m * ((c.args.j - a.s) % 2) ≤ a.m = at_most_twice a.m (c.args.j - a.s) in
    (omega arith, omega arith, omega arith)

pub returns : goal.returns
returns c =
    let a = c.shifted-a in
    c.assemble.ensures ∙ ap (root_units binary64) (sym (taken_either a.result.s c.args.j c.args.m a.result.m a.ensures.0 (omega arith)))
