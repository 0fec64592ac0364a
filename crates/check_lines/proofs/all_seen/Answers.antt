-- The first n are looked at, and `all` tells of each.
use Rattle.std.proofs.Common.{rules, ◌≡◌, true, false, take, arith}
use Rattle.std.proofs.lemmas.Iterator.{YieldsList-from_slice, cases_from_all}
use Rattle.check_lines.proofs.Once.{seen_told}
use borrow.Author.Tests.{tests}
use Rattle.check_lines.proofs.all_seen.Goals as goal

pub returns : goal.returns
returns c =
    let n = c.args.n in
    seen_told c.args.seen.now n _ (omega arith)
    (cases_from_all _ _ _ (λ m. m ≡ true) (λ m. m ≡ false) c.all.ensures.ran (YieldsList-from_slice (take n c.args.seen.now) cc) (λ x q k. search (rules, tests)) (λ x q k. search (rules, tests)))
