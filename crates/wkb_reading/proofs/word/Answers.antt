-- What the library reads, in the record's order.
use mathlib.Core.Path.{sym, ap, ◌∙◌}
use lib.ListN.{take, drop, get_or}
use Rattle.rules.specs.Wkb.{byte_order}
use Rattle.wkb_records.specs.Orders.{number_in}
use Rattle.wkb_records.proofs.Bytes.{four_le, four_be, by_order}
use Rattle.wkb_reading.proofs.word.Goals as goal

pub returns-in-Big : goal.returns-in-Big
unfolding number_in byte_order
returns-in-Big c =
    let l = c.args.bytes.now in
    let part = take 4 (drop c.args.at l) in
    c.from_be_bytes.ensures ∙ four_be l c.args.at c.requires ∙ ap (λ o. number_in o part) (sym c.in-Big.is ∙ c.of.ensures) ∙ by_order (get_or l 0 0) part

pub returns-in-Little : goal.returns-in-Little
unfolding number_in byte_order
returns-in-Little c =
    let l = c.args.bytes.now in
    let part = take 4 (drop c.args.at l) in
    c.from_le_bytes.ensures ∙ four_le l c.args.at c.requires ∙ ap (λ o. number_in o part) (sym c.in-Little.is ∙ c.of.ensures) ∙ by_order (get_or l 0 0) part
