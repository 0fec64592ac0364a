-- Five numbers are stored one after another.
use Rattle.chain_pieces.proofs.Storing.{record_put}
use Rattle.chain_pieces.proofs.Record.put.Goals as goal

pub returns : goal.returns
returns c = let r = c.args.self in record_put c.args.w.now c.args.at r.member r.members r.source r.point r.points c.requires
