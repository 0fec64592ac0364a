-- Each arm answers by the arm of the definition.
use mathlib.Core.Path.{refl, sym}
use mathlib.Core.Logic.{inl, inr}
use native.Mathlib.Omega.{arith}
use Rattle.rules.specs.Types.{width_of}
use Rattle.point_numbers.proofs.Widths.{width_known, width_none}
use Rattle.point_numbers.proofs.width_of.Goals as goal

pub returns-in-2 : goal.returns-in-2
unfolding width_of
returns-in-2 c = (sym (width_known _ 2 2 c.in-2.is refl), omega arith)

pub returns-in-1002 : goal.returns-in-1002
unfolding width_of
returns-in-1002 c = (sym (elim c.in-1002.is [ inl e ↦ width_known _ 1002 3 e refl | inr e ↦ width_known _ 2002 3 e refl ]), omega arith)

pub returns-in-3002 : goal.returns-in-3002
unfolding width_of
returns-in-3002 c = (sym (width_known _ 3002 4 c.in-3002.is refl), omega arith)

pub returns-in_default : goal.returns-in_default
returns-in_default c = (sym (width_none _ (λ e. omega arith) (λ e. grind arith) (λ e. grind arith) (λ e. omega arith)), omega arith)
