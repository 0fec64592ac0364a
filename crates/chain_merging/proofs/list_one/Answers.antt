-- One line is a member, a mark and a place in the listing, a number stored each.
use native.Mathlib.Omega.{arith}
use Rattle.chain_merging.proofs.Single.{first_low, members_one}
use Rattle.chain_merging.proofs.list_one.Goals as goal

pub overflow_add-w-2 : goal.overflow_add-w-2
overflow_add-w-2 c = omega (arith, first_low c.args.w.now c.args.n c.args.from c.args.at c.args.side 1 c.requires (omega arith), c.requires.one)

pub returns : goal.returns
returns c = members_one c.args.w.now c.args.n c.args.from c.args.at c.args.side c.requires
