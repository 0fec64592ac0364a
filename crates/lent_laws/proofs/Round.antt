-- What a round makes of good pieces is good, and the plain lines of a call are good pieces where its coordinates are places. So what round one leaves passes 19,
-- it stands for what round one left, and finishing it is building.
use Prim.Native.Nat.{ℕ, suc, ◌+◌, ◌≤◌, ◌<◌}
use mathlib.Core.Path.{◌≡◌, refl, sym, ap, ◌∙◌, subst}
use mathlib.Core.Bool.{Bool, true, false, ◌&&◌, beq, true≢false}
use mathlib.Core.List.{[], List, ◌∷◌, ◌++◌}
use mathlib.Core.Option.{Option}
use native.Mathlib.Omega.{arith}
use native.Mathlib.Nat.{add-zero}
use lib.Dec.{eqb, leb}
use lib.Ieee.{Float, lt}
use lib.ListN.{length, get_or, take}
use borrow.Author.Tests.{leb-true}
use Rattle.rules.specs.declared.Settings.{Settings}
use Rattle.rules.specs.Answers.{Exact}
use Rattle.rules.specs.Lists.{total}
use Rattle.rules.specs.Plane.{nought, points}
use Rattle.rules.specs.Chaining.{Piece, Rule, join, Line, plain, alone, pieces, limit_of, cells_of, rule_of, round_one, round_two, chains}
use Rattle.rules.specs.Layout.{Lines, lines_in, laid_out, build}
use Rattle.rules.specs.Refusals.{any_nowhere}
use Rattle.rules.specs.Pieces.{LentPieces, plain_lines, stood_for, finished_of}
use Rattle.chain_laws.proofs.Counts.{Each, nil, cons, each_weak}
use Rattle.chain_laws.proofs.Lines.{join_count, pieces_take, pieces_leave}
use Rattle.chain_laws.proofs.Records.{line_at}
use Rattle.chain_laws.proofs.Room.{join_size, pieces_size, lines_size}
use Rattle.chain_laws.proofs.Sound.{no_line, join_sound, alones}
use Rattle.point_numbers.specs.Width.{AllWide}
use Rattle.point_numbers.proofs.Points.{points_wide}
use Rattle.chain_pieces.specs.Compact.{Compact}
use Rattle.build_lines.specs.Taken.{Adds}
use Rattle.lent_laws.specs.Passes.{Passes}
use Rattle.lent_laws.specs.Good.{Good}
use Rattle.lent_laws.proofs.Places.{Place, Pointed, join_pointed, all_places, places_wide, places_none, each_take, each_drop}
use Rattle.lent_laws.proofs.Passing.{left_passes, left_stands}

-- ---- the plain lines

and_right : (a b : Bool) → (a && b) ≡ true → b ≡ true
and_right true b e = e
and_right false b e = absurd (true≢false (sym e))

beq_plain : (t : Bool) → beq true t ≡ true → t ≡ true
beq_plain true e = refl
beq_plain false e = absurd (true≢false (sym e))

plain_each : (P : Piece → Type 0) (k : ℕ) (ls : List Line) → ((i : ℕ) → plain (get_or ls i no_line) ≡ true → P (alone (k + i) (get_or ls i no_line)))
    → Each P (pieces true k ls)
unfolding pieces
plain_each P k [] h = nil
plain_each P k (l ∷ ls) h =
    go (beq true (plain l)) refl
    (plain_each P (suc k) ls (λ i e. let q : k + suc i ≡ suc k + i = omega arith in subst (λ (j : ℕ). P (alone j (get_or ls i no_line))) q (h (suc i) e)))
  where
    go : (t : Bool) → beq true (plain l) ≡ t → Each P (pieces true (suc k) ls) → Each P (pieces true k (l ∷ ls))
    go true e ih = rw (pieces_take true k l ls e) (cons (subst (λ (j : ℕ). P (alone j l)) (add-zero k) (h 0 (beq_plain (plain l) e))) ih)
    go false e ih = rw (pieces_leave true k l ls e) ih

-- ---- the plain lines of a call, each as a piece, are good, and what a round makes of good pieces is

module _ (w : ℕ) (l : Lines) (two : 2 ≤ w) (places : any_nowhere (points w l.coordinates) ≡ false) where
  abbrev ls : List Line
  ls = lines_in w l

  line_places : (k : ℕ) → Each (Place w) (get_or ls k no_line).points
  line_places k =
      subst (Each (Place w)) (sym (line_at (points w l.coordinates) l.counts l.groups l.kinds k))
      (each_take (Place w) _ (get_or l.counts k 0)
      (each_drop (Place w) (points w l.coordinates) (total (take k l.counts)) (all_places (points w l.coordinates) (points_wide w l.coordinates two) places)))

  alones_pointed : Each (Pointed (Place w)) (pieces true 0 ls)
  unfolding alone plain
  alones_pointed =
      plain_each (Pointed (Place w)) 0 ls
      (λ i e.
      record {
        some_point = omega (arith, leb-true 2 (length (get_or ls i no_line).points) (and_right (eqb (get_or ls i no_line).kind 0) (leb 2 (length (get_or ls i no_line).points)) e));
        each_point = line_places i;
      })

  lines_good : Good w l (pieces true 0 (lines_in w l))
  unfolding plain_lines
  lines_good =
      record {
        sound = alones ls true 0 ls (λ i. let z : 0 + i ≡ i = omega arith in ap (λ (m : ℕ). get_or ls m no_line) z);
        pointed = each_weak (Pointed (Place w)) (λ p. 0 < length p.points) _ (λ p h. h.some_point) alones_pointed;
        placed = each_weak (Pointed (Place w)) (λ p. any_nowhere p.points ≡ false) _ (λ p h. places_none p.points h.each_point) alones_pointed;
        wide = each_weak (Pointed (Place w)) (λ p. AllWide w p.points) _ (λ p h. places_wide p.points h.each_point) alones_pointed;
        once = λ y. refl;
        few = omega (arith, pieces_size 0 ls, lines_size (points w l.coordinates) l.counts l.groups l.kinds);
      }

both : {w : ℕ} (ps : List Piece) → Each (λ p. 0 < length p.points) ps → Each (λ p. any_nowhere p.points ≡ false) ps → Each (λ p. AllWide w p.points) ps
    → Each (Pointed (Place w)) ps
both ps nil nil nil = nil
both ps (cons {a = p} some more) (cons place places) (cons wide wides) =
    cons (record { some_point = some; each_point = all_places p.points wide place }) (both _ more places wides)

pub join_good : {w : ℕ} {l : Lines} (rule : Rule) (ps : List Piece) → Good w l ps → Good w l (join rule ps)
join_good {w} {l} rule ps h =
    let out = join_pointed (Place w) rule ps (both ps h.pointed h.placed h.wide) in
    record {
      sound = join_sound rule ps (lines_in w l) h.sound;
      pointed = each_weak (Pointed (Place w)) (λ p. 0 < length p.points) (join rule ps) (λ p h. h.some_point) out;
      placed = each_weak (Pointed (Place w)) (λ p. any_nowhere p.points ≡ false) (join rule ps) (λ p h. places_none p.points h.each_point) out;
      wide = each_weak (Pointed (Place w)) (λ p. AllWide w p.points) (join rule ps) (λ p h. places_wide p.points h.each_point) out;
      once = λ y. join_count rule ps y ∙ h.once y;
      few = omega (arith, join_size rule ps, h.few);
    }

-- WHAT ROUND ONE LEAVES IS GOOD
pub round_good : (w : ℕ) (l : Lines) → 2 ≤ w → any_nowhere (points w l.coordinates) ≡ false → (s : Settings) → Good w l (round_one s (pieces true 0 (lines_in w l)))
unfolding round_one
round_good w l two places s = join_good (rule_of Exact s) (pieces true 0 (lines_in w l)) (lines_good w l two places)

-- AND WHAT ROUND TWO MAKES OF GOOD PIECES IS
pub two_good : {w : ℕ} {l : Lines} (s : Settings) (ps : List Piece) → Good w l ps → Good w l (round_two s ps)
unfolding round_two
two_good {w} {l} s ps h = go (lt nought s.tolerance) refl
  where
    go : (t : Bool) → lt nought s.tolerance ≡ t → Good w l (round_two s ps)
    go true e = rw (e, round_two) (join_good (rule_of (cells_of s) s) ps h)
    go false e = rw (e, round_two) h

-- ---- WHAT ROUND ONE LEAVES PASSES 19, AND IS FINISHED AS BUILDING FINISHES IT, for any tolerance and origin: only switch and limit are the same in both
module _ (w : ℕ) (l : Lines) (adds : Adds w l.counts l.coordinates) (places : any_nowhere (points w l.coordinates) ≡ false) (s : Settings)
    (p : LentPieces) (v : Compact w l.counts (round_one s (pieces true 0 (lines_in w l))) p) where
  pub round_passes : Passes w l p
  round_passes = left_passes w l adds p (round_one s (pieces true 0 (lines_in w l))) v (round_good w l adds.two places s)

  pub round_stands : stood_for w l p ≡ round_one s (pieces true 0 (lines_in w l))
  round_stands = left_stands w l adds p (round_one s (pieces true 0 (lines_in w l))) v (round_good w l adds.two places s)

  pub round_finished : (t : Settings) → limit_of s ≡ limit_of t → finished_of w l p t ≡ build w t l
  unfolding finished_of build chains round_one
  round_finished t e =
      ap (λ (ps : List Piece). laid_out w l.counts (round_two t ps ++ pieces false 0 (lines_in w l)))
      (round_stands ∙ ap (λ (m : Option Float). join (record { grid = Exact; limit = m }) (pieces true 0 (lines_in w l))) e)
