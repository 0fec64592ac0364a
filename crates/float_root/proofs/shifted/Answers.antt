-- `root::shifted` meets its contract: by its leading zeros a number is brought to 53 binary digits.
use native.Mathlib.Omega.{arith}
use Rattle.float_root.proofs.Shift.{leads}
use Rattle.float_root.proofs.shifted.Goals as goal

pub overflow_sub-s : goal.overflow_sub-s
overflow_sub-s c = (leads c.args.m c.requires.0 c.requires.1).some

pub returns : goal.returns
returns c =
    let p = leads c.args.m c.requires.0 c.requires.1 in
    (omega (arith, p.short), omega (arith, p.least, p.short), omega (arith, p.short), p.few)
