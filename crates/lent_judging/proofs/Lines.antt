-- A piece of more lines: its members are noted and then its listing. Where each number of the listing was a member not yet listed, and there are as many, the
-- two have the same lines.
use Prim.Native.Nat.{ℕ, ◌≤◌, ◌<◌}
use mathlib.Core.Path.{◌≡◌, sym}
use mathlib.Core.Bool.{Bool, true, false, not, true≢false}
use mathlib.Core.List.{List}
use native.Mathlib.Decide.{ℕ_discrete}
use native.Mathlib.Omega.{arith}
use lib.ListN.{length, get_or}
use borrow.Author.Tests.{not-true, not-false}
use Rattle.rules.specs.Lists.{count}
use Rattle.chain_laws.proofs.Counts.{count_at, pos_of}
use Rattle.lent_noting.specs.Noting.{Fit, Risen, MembersNoted, Awaited, ListingNoted}
use Rattle.lent_judging.specs.Judging.{LinesLent, LinesFit, LinesJudged}
use Rattle.lent_judging.proofs.Counts.{counts_full}

refused : {seen' seen counts groups kinds lines marks listing : List ℕ} → (LinesFit seen counts groups kinds lines marks listing → ⊥)
    → LinesJudged seen' seen counts groups kinds lines marks listing true
refused n = record { fit = λ e. absurd (true≢false e); long = λ e. absurd (true≢false e); noted = λ e. absurd (true≢false e); unfit = λ e. n }

module _ {seen counts groups kinds lines marks listing : List ℕ} (y : LinesLent seen counts groups kinds lines marks listing) where
  -- the first line is none
  pub lines_far : {seen' : List ℕ} → length groups ≤ get_or lines 0 0 → LinesJudged seen' seen counts groups kinds lines marks listing true
  lines_far h = refused (λ t. omega (arith, t.fit.low (get_or lines 0 0) (count_at lines 0 y.some_line), y.tabled.groups_long))

  module _ {seen₁ : List ℕ} {r : Bool} (m : MembersNoted seen₁ seen counts groups kinds (get_or groups (get_or lines 0 0) 0) lines marks r) where
    pub lines_unfit : {seen' : List ℕ} → not r ≡ true → LinesJudged seen' seen counts groups kinds lines marks listing true
    lines_unfit e = refused (λ t. m.unfit (not-true _ e) t.fit)

    module _ (e : not r ≡ false) where
      abbrev fit : Fit seen counts groups kinds (get_or groups (get_or lines 0 0) 0) lines marks
      fit = m.fit (not-false _ e)

      abbrev up : Risen seen₁ seen lines
      up = m.risen (not-false _ e)

      -- a number of the listing was a member
      fewer : Awaited seen₁ listing → (z : ℕ) → count z listing ≤ count z lines
      fewer a z =
          elim (ℕ_discrete (count z listing) 0) [
            | yes n ↦ omega arith
            | no n ↦
                let h : 0 < count z listing = pos_of _ n in
                let member : (count z lines ≡ 0 → ⊥) = λ q. y.even.even z (a.low z h) (omega (arith, up.counted z (a.low z h), a.half z h)) in
                omega (arith, a.once z, pos_of (count z lines) member)
          ]

      same : Awaited seen₁ listing → (z : ℕ) → count z lines ≡ count z listing
      same a z = sym (counts_full listing lines (fewer a) (omega (arith, y.listing_long)) z)

      -- and where the two have the same lines, each was
      awaited : LinesFit seen counts groups kinds lines marks listing → Awaited seen₁ listing
      awaited t =
          record {
            low = λ z h. omega (arith, t.fit.low z (omega (arith, t.names z)), y.tabled.few);
            half = λ z h.
                let k : 0 < count z lines = omega (arith, t.names z) in
                omega (arith, up.counted z (omega (arith, t.fit.low z k, y.tabled.few)), t.fit.once z k);
            once = λ z.
                elim (ℕ_discrete (count z lines) 0) [ yes n ↦ omega (arith, t.names z) | no n ↦ omega (arith, t.names z, t.fit.once z (pos_of _ n)) ];
          }

      pub lines_judged : {seen₂ : List ℕ} {b : Bool} → ListingNoted seen₂ seen₁ listing b → LinesJudged seen₂ seen counts groups kinds lines marks listing (not b)
      lines_judged {seen₂} {b} l =
          record {
            fit = λ f. record { fit = fit; names = same (l.awaited (not-false _ f)) };
            long = λ f. (l.risen (not-false _ f)).long;
            noted = λ f z h. omega (arith, (l.risen (not-false _ f)).counted z h, up.counted z h, same (l.awaited (not-false _ f)) z);
            unfit = λ f t. l.foreign (not-true _ f) (awaited t);
          }
