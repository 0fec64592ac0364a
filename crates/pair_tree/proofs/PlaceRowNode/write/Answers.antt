use native.Mathlib.Omega.{arith}
use Rattle.pair_tree.proofs.Stores.{place_back}
use Rattle.pair_tree.proofs.PlaceRowNode.write.Goals as goal

pub returns-clause-put : goal.returns-clause-put
returns-clause-put c = place_back c.args.w.now c.args.k c.args.self.key c.args.self.tie (omega (arith, c.requires.room))
