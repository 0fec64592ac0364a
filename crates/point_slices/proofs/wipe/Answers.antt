-- Numbers that are all zero stay, and others are filled.
use Rattle.point_slices.proofs.Zeros.{blank_holds}
use Rattle.point_slices.proofs.wipe.Goals as goal

pub returns-else-not-blank : goal.returns-else-not-blank
returns-else-not-blank c = blank_holds c.args.w.now c.args.i c.requires (c.blank.ensures.zeros c.if-not-blank.false)
