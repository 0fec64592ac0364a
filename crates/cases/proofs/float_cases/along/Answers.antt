-- Four numbers are two points and nothing more.
use borrow.Author.Rules.{rules}
use mathlib.Core.Path.{refl}
use native.Mathlib.Omega.{arith}
use Rattle.cases.proofs.float_cases.along.Goals as goal

pub piece_direction-requires : goal.piece_direction-requires
piece_direction-requires c = (omega arith, record { number = 2; long = refl })
