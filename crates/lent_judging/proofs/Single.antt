-- One piece's tests as laws of numbers: a record's frame, one line, and a part of merged coordinates.
use Prim.Native.Nat.{ℕ, zero, suc, ◌+◌, ◌*◌, ◌-◌, ◌≤◌}
use mathlib.Core.Path.{◌≡◌, refl, ap, ◌∙◌}
use mathlib.Core.Bool.{Bool, true, true≢false}
use mathlib.Core.List.{List}
use native.Mathlib.Omega.{arith}
use native.Mathlib.Nat.{add-mul, mul-le-mul_left}
use lib.Dec.{ltb}
use lib.ListN.{length, take, drop, length-take, length-drop}
use borrow.Author.Tests.{eq-eqb, ne_eqb, ltb-true, ltb-false}
use Rattle.rules.specs.Plane.{points}
use Rattle.rules.specs.Refusals.{any_nowhere, source_of}
use Rattle.chain_laws.proofs.Counts.{pos_of}
use Rattle.point_numbers.specs.Width.{Whole}
use Rattle.rules.specs.Layout.{Lines}
use Rattle.rules.specs.Pieces.{LentPieces}
use Rattle.lent_judging.specs.declared.Record.{Record}
use Rattle.lent_judging.specs.Judging.{Framed, FrameJudged, OneFit, OneJudged, points_bad}

-- ---- a record's numbers

pub source_input : (s : ℕ) (a b : List ℕ) → s ≡ 0 → source_of s a b ≡ a
unfolding source_of
source_input s a b e = ap (λ (i : ℕ). source_of i a b) e

pub source_merged : (s : ℕ) (a b : List ℕ) → (s ≡ 0 → ⊥) → source_of s a b ≡ b
unfolding source_of
source_merged zero a b n = absurd (n refl)
source_merged (suc s) a b n = refl

-- with at most four numbers to a coordinate
pub four : (a b : ℕ) → b ≤ 4 → a * b ≤ a * 4
four a b h = mul-le-mul_left a h

module _ {w : ℕ} {l : Lines} {p : LentPieces} {r : Record} where
  pub frame_refuse : (Framed w l p r → ⊥) → FrameJudged w l p r true
  frame_refuse n = record { framed = λ e. absurd (true≢false e); unframed = λ e. n }

  -- k is the length of the slice that the source names
  pub frame_told : (k : ℕ) → length (source_of r.source l.coordinates p.merged) ≡ k → (r.lines ≡ 0 → ⊥) → (r.points ≡ 0 → ⊥) → r.first + r.lines ≤ length p.members
      → r.first + r.lines ≤ length p.marks → r.first + r.lines ≤ length p.listing → FrameJudged w l p r (ltb k ((r.point + r.points) * w))
  frame_told k e o n a b c =
      record {
        framed = λ f.
            record {
              some_line = pos_of _ o;
              some_point = pos_of _ n;
              in_members = a;
              in_marks = b;
              in_listing = c;
              in_source = omega (arith, ltb-false k ((r.point + r.points) * w) f);
            };
        unframed = λ f t. omega (arith, ltb-true k ((r.point + r.points) * w) f, t.in_source);
      }

-- ---- one line

module _ {seen : List ℕ} {l : Lines} {p : LentPieces} {r : Record} where
  pub one_refuse : {seen' : List ℕ} → (OneFit seen l p r → ⊥) → OneJudged seen' seen l p r true
  one_refuse n = record { fit = λ e. absurd (true≢false e); noted = λ e. absurd (true≢false e); unfit = λ e. n }

-- ---- a part of merged coordinates

pub points_other : (w : ℕ) (r : Record) (merged : List ℕ) → (r.source ≡ 1 → ⊥) → true ≡ points_bad w r merged
unfolding points_bad
points_other w r merged n = rw (ne_eqb r.source 1 n, points_bad)

module _ (w : ℕ) (r : Record) (merged : List ℕ) where
  -- the part from its first number to its last
  abbrev looked : List ℕ
  looked = take ((r.point + r.points) * w - r.point * w) (drop (r.point * w) merged)

  looked_is : looked ≡ take (r.points * w) (drop (r.point * w) merged)
  looked_is =
      let e : (r.point + r.points) * w - r.point * w ≡ r.points * w = omega (arith, add-mul r.point r.points w) in
      ap (λ (k : ℕ). take k (drop (r.point * w) merged)) e

  pub looked_whole : (r.point + r.points) * w ≤ length merged → Whole w looked
  looked_whole h = record { number = r.points; long = simp (length-take, length-drop) (omega (arith, add-mul r.point r.points w)) }

  pub points_told : {b : Bool} → r.source ≡ 1 → b ≡ any_nowhere (points w looked) → b ≡ points_bad w r merged
  unfolding points_bad
  points_told s h = rw (eq-eqb r.source 1 s, points_bad) (h ∙ ap (λ (l : List ℕ). any_nowhere (points w l)) looked_is)
