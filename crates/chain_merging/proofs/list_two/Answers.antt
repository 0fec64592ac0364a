-- Two lines are two members, two marks and two places in the listing, a number stored each.
use native.Mathlib.Omega.{arith}
use Rattle.chain_merging.proofs.Single.{first_low, mark_low, members_two}
use Rattle.chain_merging.proofs.list_two.Goals as goal

pub overflow_add-w-4 : goal.overflow_add-w-4
overflow_add-w-4 c = omega (arith, first_low c.args.w.now c.args.n c.args.from c.args.at c.args.side 2 c.requires (omega arith), c.requires.one)

pub overflow_add-w-6 : goal.overflow_add-w-6
overflow_add-w-6 c = omega (arith, mark_low c.args.w.now c.args.n c.args.from c.args.at c.args.side 2 1 c.requires (omega arith), c.requires.one)

pub returns : goal.returns
returns c = members_two c.args.w.now c.args.n c.args.from c.args.at c.args.side c.requires
