-- The lines get their marks, and so none is listed twice and they are few; then the chain is judged.
use native.Mathlib.Omega.{arith}
use Prim.Native.Nat.{ℕ, ◌+◌, ◌*◌, ◌≤◌}
use mathlib.Core.Path.{sym, ap₂, ◌∙◌, subst}
use mathlib.Core.List.{List}
use lib.ListN.{length}
use Rattle.rules.specs.Refusals.{record_size, most_lines}
use Rattle.rules.specs.Plane.{points}
use Rattle.rules.specs.Check.{listed_at, fits}
use Rattle.check_lines.specs.Lines.{Below, Noted}
use Rattle.check_fits.specs.Fits.{ChainLent, chosen}
use Rattle.check_calls.proofs.Records.{row_inside, part_listed, part_whole, few_listed, mark_few}
use Rattle.check_calls.proofs.Judging.{judged_twice, judged_fit}
use Rattle.check_calls.proofs.chain_at.Goals as goal
use Rattle.check_calls.proofs.chain_at.Goals.{Start}

row : (s : Start) → s.args.k * record_size + record_size ≤ length s.args.chains.now.table.now
row s =
    let l = s.args.lines.now in
    let d = s.args.chains.now in
    row_inside l.width (length l.counts.now) l.coordinates.now d.merged.now d.table.now d.listing.now s.args.k s.requires.stands

pub overflow_mul-from : goal.overflow_mul-from
overflow_mul-from c = omega (arith, row (goal.at.overflow_mul-from c).Start)

pub offset_bounds-chains-k : goal.offset_bounds-chains-k
offset_bounds-chains-k c = omega (arith, row (goal.at.offset_bounds-chains-k c).Start)

pub bounds-chains-k : goal.bounds-chains-k
bounds-chains-k c = omega (arith, row (goal.at.bounds-chains-k c).Start)

pub overflow_mul-to : goal.overflow_mul-to
overflow_mul-to c = omega (arith, row (goal.at.overflow_mul-to c).Start)

pub overflow_add-to : goal.overflow_add-to
overflow_add-to c = omega (arith, row (goal.at.overflow_add-to c).Start)

pub offset_bounds-chains-k-2 : goal.offset_bounds-chains-k-2
offset_bounds-chains-k-2 c = omega (arith, row (goal.at.offset_bounds-chains-k-2 c).Start)

pub bounds-chains-k-2 : goal.bounds-chains-k-2
bounds-chains-k-2 c = omega (arith, row (goal.at.bounds-chains-k-2 c).Start)

pub note-requires : goal.note-requires
note-requires c =
    let l = c.args.lines.now in
    let d = c.args.chains.now in
    subst (Below most_lines) (sym (part_listed l.width (length l.counts.now) l.coordinates.now d.merged.now d.table.now d.listing.now c.args.k))
    (λ i h. omega (arith, c.requires.below i h, l.tabled.lined.few))

pub returns-then-not-note : goal.returns-then-not-note
returns-then-not-note c =
    let a = c.args in
    let l = a.lines.now in
    let d = a.chains.now in
    let o = c.note in
    let n : Noted o.new.seen a.seen.now (listed_at d.table.now d.listing.now a.k) o.result =
    subst (λ (p : List ℕ). Noted o.new.seen a.seen.now p o.result) (part_listed l.width (length l.counts.now) l.coordinates.now d.merged.now d.table.now d.listing.now a.k) o.ensures in
    judged_twice a.m l.width l.coordinates.now l.counts.now l.groups.now l.kinds.now d.merged.now d.table.now d.listing.now a.k a.seen.now o.new.seen (n.twice c.if-not-note.true)

pub chain_fits-requires : goal.chain_fits-requires
chain_fits-requires c =
    let a = c.args in
    let l = a.lines.now in
    let d = a.chains.now in
    let o = c.note in
    let q = c.part-chain in
    let p = listed_at d.table.now d.listing.now a.k in
    let is = part_listed l.width (length l.counts.now) l.coordinates.now d.merged.now d.table.now d.listing.now a.k in
    let n : Noted o.new.seen a.seen.now p o.result = subst (λ (p : List ℕ). Noted o.new.seen a.seen.now p o.result) is o.ensures in
    subst (λ (p : List ℕ). ChainLent l.width l.counts.now p q.result.now) (sym is)
    (subst (ChainLent l.width l.counts.now p) (sym q.ensures)
    (record {
      below = c.requires.below;
      few = few_listed (length l.counts.now) p l.tabled.lined.few c.requires.below (λ y h. omega (arith, n.added c.if-not-note.false y h, mark_few o.new.seen y));
      whole = part_whole l.width (length l.counts.now) l.coordinates.now d.merged.now d.table.now d.listing.now a.k c.requires.stands;
    }))

pub returns : goal.returns
returns c =
    let a = c.args in
    let l = a.lines.now in
    let d = a.chains.now in
    let o = c.note in
    let q = c.part-chain in
    let p = listed_at d.table.now d.listing.now a.k in
    let is = part_listed l.width (length l.counts.now) l.coordinates.now d.merged.now d.table.now d.listing.now a.k in
    let n : Noted o.new.seen a.seen.now p o.result = subst (λ (p : List ℕ). Noted o.new.seen a.seen.now p o.result) is o.ensures in
    judged_fit a.m l.width l.coordinates.now l.counts.now l.groups.now l.kinds.now d.merged.now d.table.now d.listing.now a.k a.seen.now o.new.seen c.chain_fits.result (n.added c.if-not-note.false)
    (c.chain_fits.ensures
    ∙ ap₂ (λ (p t : List ℕ). fits a.m (chosen l.width l.coordinates.now l.counts.now l.groups.now l.kinds.now p) (points l.width t)) is q.ensures)
