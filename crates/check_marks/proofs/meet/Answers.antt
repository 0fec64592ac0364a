-- The tests one after another.
use mathlib.Core.Path.{◌∙◌}
use lib.Ieee.{of_bits}
use Rattle.rules.specs.Plane.{point}
use Rattle.check_marks.proofs.Meets.{meet_bits, meet_cells, meet_none}
use Rattle.check_marks.proofs.meet.Goals as goal

pub returns-then-same_bits : goal.returns-then-same_bits
returns-then-same_bits c = let a = c.args in c.if-same_bits.true ∙ meet_bits a.m (point a.ax a.ay) (point a.bx a.by) c.same_bits.result c.same_bits.ensures c.if-same_bits.true

pub returns-then-m : goal.returns-then-m
unfolding of_bits
returns-then-m c = let a = c.args in meet_cells a.m (point a.ax a.ay) (point a.bx a.by) c.same_bits.result c.same_cell.result c.same_bits.ensures c.if-same_bits.false c.if-m.true c.same_cell.ensures

pub returns-else-m : goal.returns-else-m
unfolding of_bits
returns-else-m c = let a = c.args in c.if-m.false ∙ meet_none a.m (point a.ax a.ay) (point a.bx a.by) c.same_bits.result c.same_bits.ensures c.if-same_bits.false c.if-m.false
