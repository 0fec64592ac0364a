-- All pieces judged one after another: too many coordinates refuse them all, and after the last a plain line without a mark does. Otherwise they pass: every
-- line that they name is plain and named once, and every plain line is named.
use Prim.Native.Nat.{ℕ, suc, ◌+◌, ◌*◌, ◌≤◌, ◌<◌}
use mathlib.Core.Path.{◌≡◌, refl, sym, ap, ◌∙◌, subst}
use mathlib.Core.Bool.{Bool, true, false, not}
use mathlib.Core.List.{List, map, flat_map}
use native.Mathlib.Decide.{ℕ_discrete}
use native.Mathlib.Omega.{arith}
use native.Mathlib.Numerals.{add-one}
use lib.ListN.{length, replicate, length-replicate, get_or-replicate}
use Rattle.rules.specs.Lists.{one, count, upto, total}
use Rattle.rules.specs.Layout.{Lines}
use Rattle.rules.specs.Refusals.{most_lines, piece_size}
use Rattle.rules.specs.Pieces.{LentPieces, plain_lines, point_count, members_at, listing_at, lent_bad}
use Rattle.chain_laws.proofs.Counts.{pos_of}
use Rattle.build_lines.specs.Taken.{Adds}
use Rattle.build_lines.proofs.Passing.{plain_at}
use Rattle.lent_laws.proofs.Tests.{flat_none, sum_suc, sum_none, sum_part}
use Rattle.lent_laws.proofs.Plain.{plain_low, plain_once, plain_is}
use Rattle.lent_laws.proofs.Clauses.{passes, refused}
use Rattle.lent_noting.specs.Noting.{AllNoted}
use Rattle.lent_judging.specs.Judging.{LinesSized, PointsCounted, PieceJudged}
use Rattle.lent_judging.proofs.Pieces.{one_true}

module _ (w : ℕ) (l : Lines) (p : LentPieces) where
  pub counted_start : PointsCounted w l p (replicate most_lines 0) 0
  counted_start =
      record {
        long = length-replicate {A = ℕ} most_lines 0;
        marked = λ y h. omega (arith, get_or-replicate {A = ℕ} most_lines y 0 0 h, flat_none (members_at w l p) y);
        within = λ y. omega (arith, flat_none (members_at w l p) y);
        same = λ y. flat_none (listing_at w l p) y ∙ sym (flat_none (members_at w l p) y);
        fine = λ i h. absurd (omega arith);
      }

  -- the records leave their slice
  pub records_leave : length p.records < p.number * piece_size → true ≡ lent_bad w l p
  records_leave h = sym (refused w l p (λ o. omega (arith, o.inside)))

  -- the coordinates of the first q
  abbrev pub summed : ℕ → ℕ
  summed q = total (map (point_count w l p) (upto q))

  pub sum_start : 0 ≡ summed 0
  sum_start = sym (sum_none (point_count w l p))

  pub sum_next : (q sum : ℕ) → sum ≡ summed q → sum + point_count w l p q ≡ summed (q + 1)
  sum_next q sum e = rw add-one (omega (arith, sum_suc (point_count w l p) q))

  pub too_many : (q sum : ℕ) → q < p.number → sum ≡ summed q → total l.counts < sum + point_count w l p q → true ≡ lent_bad w l p
  too_many q sum b e h =
      sym (refused w l p (λ o. omega (arith, sum_suc (point_count w l p) q, sum_part (point_count w l p) (suc q) p.number (omega arith), o.few)))

  pub piece_refused : {seen : List ℕ} {q : ℕ} {r : Bool} → PieceJudged w l p seen q r → r ≡ true → true ≡ lent_bad w l p
  piece_refused j e = sym (refused w l p (j.refused e))

  -- after the last
  pub all_judged : {seen : List ℕ} {q : ℕ} (r : Bool) → LinesSized w l → PointsCounted w l p seen q → q ≡ p.number → p.number * piece_size ≤ length p.records
      → summed q ≤ total l.counts → AllNoted seen l.counts l.kinds r → not r ≡ lent_bad w l p
  all_judged {seen} {q} r s c e inside fit a = go r refl
    where
      all : PointsCounted w l p seen p.number
      all = subst (λ (i : ℕ). PointsCounted w l p seen i) e c

      adds : Adds w l.counts l.coordinates
      adds = record { two = s.two; sum = s.adds }

      -- a plain line has a mark exactly if it is named
      named : r ≡ true → (y : ℕ) → count y (flat_map (members_at w l p) (upto p.number)) ≡ count y (plain_lines w l)
      named t y =
          elim (ℕ_discrete (count y (plain_lines w l)) 0) [
            | yes z ↦ omega (arith, all.within y)
            | no d ↦
                let low : y < length l.counts = plain_low w l y (pos_of _ d) in
                let plain : plain_at l.counts l.kinds y ≡ true = one_true _ (omega (arith, plain_is w l adds y low, pos_of _ d)) in
                omega (arith, all.within y, plain_once w l y, all.marked y (omega (arith, s.tabled.few)), a.noted t y low plain, pos_of _ d)
          ]

      go : (b : Bool) → r ≡ b → not b ≡ lent_bad w l p
      go true t =
          sym (passes w l p (
          record {
            inside = inside;
            fine = all.fine;
            members = named t;
            listing = λ y. all.same y ∙ named t y;
            few = subst (λ (i : ℕ). summed i ≤ total l.counts) e fit;
          }
          ))
      go false t =
          let m = a.missing t in
          sym (refused w l p (λ o. omega (arith, o.members m.0, all.marked m.0 (omega (arith, s.tabled.few, m.1)), plain_is w l adds m.0 m.1, ap one m.2, m.3)))
