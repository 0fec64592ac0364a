-- One line or two are numbers stored; of more the members are copied, the marks turned and the lines listed, one kind after another.
use Rattle.chain_merging.proofs.Turning.{turnable, members_many}
use Rattle.chain_merging.proofs.list_members.Goals as goal

pub turn_marks-requires : goal.turn_marks-requires
turn_marks-requires c = let d = c.copy_down in turnable c.args.w.now d.new.w c.args.n c.args.from c.args.at c.args.count c.args.side c.requires d.ensures

pub returns-in_default : goal.returns-in_default
returns-in_default c =
    let d = c.copy_down in
    let t = c.turn_marks in
    members_many c.args.w.now d.new.w c.args.n c.args.from c.args.at c.args.count c.args.side c.requires d.ensures t.new.w t.ensures
    c.pass_lines.new.w c.pass_lines.ensures
