-- What is read at the place.
use Rattle.check_places.proofs.Scanning.{scan_start}
use Rattle.check_places.proofs.scan_first.Goals as goal

pub returns : goal.returns
returns c =
    let a = c.args in
    scan_start a.width a.chain.now a.line.now a.turned c.requires.0 a.i c.reach-reached.result c.reach-reached.ensures
