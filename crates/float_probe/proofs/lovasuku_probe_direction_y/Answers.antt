-- An absent direction has a NaN.
use mathlib.Core.Path.{sym, ap, refl, ◌∙◌, ◌≡◌}
use lib.Ieee.{Float, binary64, of_bits}
use Rattle.std.specs.Float.{nan}
use Rattle.float_probe.specs.Parts.{y_of}
use Rattle.float_probe.proofs.lovasuku_probe_direction_y.Goals as goal

pub returns-in-None : goal.returns-in-None
unfolding of_bits
returns-in-None c = let e : of_bits binary64 9221120237041090560 ≡ nan = refl in e ∙ ap y_of (sym c.in-None.is ∙ c.direction_of.ensures)
