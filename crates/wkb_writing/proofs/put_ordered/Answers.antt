-- The order's byte, two words and the numbers, one behind another.
use Prim.Native.Nat.{ℕ, ◌+◌}
use mathlib.Core.Path.{refl, subst}
use lib.ListN.{set}
use denote.Enum.Declared.{tag_of}
use Rattle.wkb_records.specs.contracts.Order.{the_type}
use Rattle.point_slices.specs.Holds.{HoldsFrom}
use Rattle.rules.specs.Wkb.{bytes_by}
use Rattle.wkb_records.specs.Orders.{byte_of}
use Rattle.wkb_records.proofs.Bytes.{tag_is}
use Rattle.wkb_writing.proofs.Laws.{record_put, put_whole}
use Rattle.wkb_writing.proofs.put_ordered.Goals as goal

pub returns : goal.returns
returns c =
    let a = c.args in
    let o = byte_of a.order in
    let typed =
    subst (λ (v : ℕ). HoldsFrom c.put.new.run (set a.run.now a.at v) (a.at + 1) 4 (bytes_by o 4 a.wkb_type)) (tag_is a.order)
    (subst (HoldsFrom c.put.new.run (set a.run.now a.at (tag_of the_type a.order)) (a.at + 1) 4) c.four_of.ensures c.put.ensures) in
    let counted = subst (HoldsFrom c.put-2.new.run c.put.new.run (a.at + 5) 4) c.four_of-2.ensures c.put-2.ensures in
    put_whole o a.wkb_type a.count a.numbers.now refl (record_put o a.wkb_type a.count a.at a.numbers.now c.requires typed counted c.put_numbers.ensures)
