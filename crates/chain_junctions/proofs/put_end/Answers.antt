-- `put_end` writes the words of end i and no word of another end; the bits of a direction are read back as it.
use Rattle.std.proofs.Common.{rules, ap, ◌∙◌}
use Rattle.rules.specs.Plane.{float}
use Rattle.float_bits.proofs.Kept.{of_bits_of}
use Rattle.chain_junctions.proofs.Laws.{end_absent, end_toward}
use Rattle.chain_junctions.proofs.put_end.Goals as goal

pub returns-in-Some : goal.returns-in-Some
returns-in-Some c =
    end_toward _ _ _ _ c.requires.0 c.requires.1 _ _ _ _ (ap float c.bits_of.ensures ∙ of_bits_of _ (search rules)) (ap float c.bits_of-in-Some.ensures ∙ of_bits_of _ (search rules)) _ c.in-Some.is

pub returns-in-None : goal.returns-in-None
returns-in-None c = end_absent _ _ _ _ c.requires.0 c.requires.1 _ c.in-None.is
