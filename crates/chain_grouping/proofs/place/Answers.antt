-- `place` keeps the ends grouped: e goes behind the leader of its key if there is one, and leads otherwise.
use Rattle.std.proofs.Common.{ap, ◌∙◌}
use Rattle.chain_grouping.specs.Group.{bucket_of}
use Rattle.chain_grouping.proofs.Space.{last_below, append_placed, lead_placed}
use Rattle.chain_grouping.proofs.place.Goals as goal

pub append-requires : goal.append-requires
append-requires c =
    let t = c.find.ensures.there c.in-Some.f c.in-Some.is in
    (c.requires.0, c.requires.1, t.0, last_below _ _ _ c.requires.0 c.requires.1 c.requires.2 c.in-Some.f t.0 t.1)

pub returns-in-Some : goal.returns-in-Some
returns-in-Some c =
    let t = c.find.ensures.there c.in-Some.f c.in-Some.is in
    rw c.append.ensures (append_placed _ _ _ c.requires.0 c.requires.1 c.requires.2 c.in-Some.f t.0 t.1 t.2)

pub returns-in-None : goal.returns-in-None
returns-in-None c =
    rw c.lead.ensures (lead_placed _ _ _ c.requires.0 c.requires.1 c.requires.2 c.bucket-b.result c.bucket-b.ensures.1 (c.bucket-b.ensures.0 ∙ ap (bucket_of c.args.m) c.key_at-key.ensures) (c.find.ensures.nowhere c.in-None.is))
