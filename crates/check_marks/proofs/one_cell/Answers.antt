-- The keys of two cells are the same exactly if the cells are.
use mathlib.Core.Path.{sym, ap₂, ◌∙◌}
use lib.Dec.{eqb}
use Rattle.rules.specs.Cell.{cell}
use Rattle.float_cell.proofs.Same.{cell_in, lifted_same_is}
use Rattle.check_marks.proofs.one_cell.Goals as goal

pub returns : goal.returns
returns c =
    let a = c.args in
    ap₂ eqb c.cell_key.ensures c.cell_key-2.ensures
    ∙ sym (lifted_same_is (cell a.tolerance a.origin a.a) (cell a.tolerance a.origin a.b) (cell_in a.tolerance a.origin a.a) (cell_in a.tolerance a.origin a.b))
