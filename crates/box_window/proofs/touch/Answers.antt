-- Of numbers from zero on the bits decide; of any other the floats do.
use mathlib.Core.Path.{◌∙◌}
use borrow.Author.Tests.{lt-leb, le-ltb}
use Rattle.box_window.proofs.Bits.{touch_last, touch_behind, touch_ahead}
use Rattle.box_window.proofs.touch.Goals as goal

pub returns-then-first-high : goal.returns-then-first-high
returns-then-first-high c = touch_last _ _ _ _ _ _ c.requires.0 c.requires.1 c.if-high-le-INFINITE.true c.if-low-past.true c.if-first-high.true

pub returns-else-first-high : goal.returns-else-first-high
returns-else-first-high c = lt-leb _ _ c.if-first-high.false ∙ touch_behind _ _ _ _ _ _ c.requires.0 c.requires.1 c.if-high-le-INFINITE.true c.if-low-past.true c.if-first-high.false

pub returns-else-low-gt-INFINITE : goal.returns-else-low-gt-INFINITE
returns-else-low-gt-INFINITE c =
    le-ltb _ _ c.if-low-gt-INFINITE.false ∙ touch_ahead _ c.args.high _ _ _ _ c.requires.0 c.requires.1 c.if-low-past.false c.if-low-gt-INFINITE.false
