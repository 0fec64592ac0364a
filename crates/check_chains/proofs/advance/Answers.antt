-- The law of a line behind another, with what the tables, the marks and the ends of these tell.
use native.Mathlib.Omega.{arith}
use mathlib.Core.Path.{ap₂, ◌∙◌}
use Prim.Native.Nat.{max}
use Rattle.check_chains.proofs.Advancing.{base_near, greater_near, max_is, advance_steps}
use Rattle.check_chains.proofs.advance.Goals as goal

pub overflow_add-result : goal.overflow_add-result
overflow_add-result c =
    let a = c.args in
    omega (
      arith,
      base_near a.width a.chain.now a.p.now a.l.now a.tables.now.marks a.h a.m c.requires,
      greater_near a.width a.chain.now a.p.now a.l.now a.tables.now.marks a.h a.m c.requires c.open_to-drawn.result c.open_to-turned.result _ _ c.max.result _ _
          c.fill_open-a.ensures c.fill_open-b.ensures
          (max_is a.width a.chain.now a.p.now a.l.now a.tables.now.marks a.h a.m c.requires _ _ c.max.result (c.max.ensures ∙ ap₂ max c.unwrap_or.ensures c.unwrap_or-2.ensures)),
    )

pub returns : goal.returns
returns c =
    let a = c.args in
    λ y.
    advance_steps a.width a.chain.now a.p.now a.l.now a.tables.now.marks a.h a.m y _ _ c.open_to-drawn.result c.open_to-turned.result _ _ c.max.result
    c.open_to-drawn.ensures c.open_to-turned.ensures c.fill_open-a.ensures c.fill_open-b.ensures
    (max_is a.width a.chain.now a.p.now a.l.now a.tables.now.marks a.h a.m y _ _ c.max.result (c.max.ensures ∙ ap₂ max c.unwrap_or.ensures c.unwrap_or-2.ensures)) _
    c.move_on.ensures c.trim_low-low.result c.trim_high-end.result c.trim_low-low.ensures c.trim_high-end.ensures
