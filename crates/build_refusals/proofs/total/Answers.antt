-- `total` is the book's sum, which is the library's.
use Rattle.std.proofs.Common.{◌≡◌, ◌≤◌, sum_by, rules, ◌∙◌, sym, arith}
use Rattle.std.proofs.lemmas.List.Elements.{All-from_get_or}
use Rattle.std.proofs.lemmas.List.Sums.{sum_by-le}
use Rattle.build_refusals.proofs.Laws.{total_sum}
use Rattle.build_refusals.proofs.total.Goals as goal

pub returns : goal.returns
returns c =
    let cs = c.args.counts.now in
    let e : c.sum.result ≡ sum_by (λ x. x) cs = search rules in
    let few = sum_by-le (λ x. x) 4294967295 cs (All-from_get_or (λ x. x ≤ 4294967295) cs 0 (λ i l. omega (arith, c.type_inv.counts i))) in
    (e ∙ sym (total_sum cs), omega arith)
