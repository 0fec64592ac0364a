-- The WKB calls: one call has one number at the door and leaves each lent slice in one way.
use Prim.Native.Nat.{ℕ}
use mathlib.Core.Path.{◌≡◌, sym, subst, ◌∙◌}
use mathlib.Core.List.{List}
use lib.ListN.{length}
use Rattle.rules.specs.Answers.{Answer}
use Rattle.rules.specs.Calls.{Numbered}
use Rattle.rules.specs.Wkb.{LentRun, read_refusal_of, Read, LentChains, run_of, write_refusal_of, Wrote}
use Rattle.door.proofs.Answers.{numbered_once}

-- ---- one number

pub one_reading : (i : LentRun) (r r' : ℕ) (coordinates coordinates' counts counts' type type' : List ℕ)
    → Numbered (λ a. Read i a coordinates counts type) r
    → Numbered (λ a. Read i a coordinates' counts' type') r'
    → (r ≡ r') × (coordinates ≡ coordinates') × (counts ≡ counts') × (type ≡ type')
one_reading i r r' coordinates coordinates' counts counts' type type' a b =
    let p = a.determined in
    let q = b.determined in (
      numbered_once (λ x y u v. u.answer ∙ sym v.answer) a b,
      p.coordinates ∙ sym q.coordinates,
      p.counts ∙ sym q.counts,
      p.type ∙ sym q.type,
    )

pub one_writing : (i : LentChains) (r r' : ℕ) (run run' lengths lengths' : List ℕ)
    → Numbered (λ a. Wrote i a run lengths) r
    → Numbered (λ a. Wrote i a run' lengths') r'
    → (r ≡ r') × (run ≡ run') × (lengths ≡ lengths')
one_writing i r r' run run' lengths lengths' a b =
    let p = a.determined in
    let q = b.determined in
    (numbered_once (λ x y u v. u.answer ∙ sym v.answer) a b, p.run ∙ sym q.run, p.lengths ∙ sym q.lengths)
