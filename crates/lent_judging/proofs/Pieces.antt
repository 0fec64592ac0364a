-- One piece judged beside those before it. What is found of its lines is what 19 asks of them: each is plain, and no piece before has it, since the lines that
-- those have are marked. So a piece that is refused can't pass, and one that isn't is counted with those before.
use Prim.Native.Nat.{ℕ, zero, suc, ◌+◌, ◌*◌, ◌-◌, ◌≤◌, ◌<◌}
use mathlib.Core.Path.{◌≡◌, refl, sym, ap, ◌∙◌, subst}
use mathlib.Core.Logic.{◌≢◌}
use mathlib.Core.Bool.{Bool, true, false, true≢false}
use mathlib.Core.List.{[], List, ◌∷◌, flat_map}
use native.Mathlib.Decide.{ℕ_discrete}
use native.Mathlib.Omega.{arith}
use native.Mathlib.Numerals.{add-one}
use native.Mathlib.Nat.{add-mul}
use lib.Dec.{ltb}
use lib.ListN.{length, get_or, set, take, drop, length-drop, length-set}
use lib.Seq.{drop-cons, get_or-set_same, get_or-set_other}
use borrow.Author.Tests.{eq-eqb, ne_eqb, le-ltb, ltb-false}
use Rattle.rules.specs.Lists.{one, count, upto, total}
use Rattle.rules.specs.Plane.{points}
use Rattle.rules.specs.Layout.{Lines}
use Rattle.rules.specs.Refusals.{any_above, any_nowhere, source_of, most_lines}
use Rattle.rules.specs.Pieces.{LentPieces, plain_lines, first_member, member_count, source, first_point, point_count, part_of, members_at, marks_at, listing_at, numbers_at, leader}
use Rattle.chain_laws.proofs.Counts.{one_same, one_other, pos_of}
use Rattle.point_numbers.proofs.Points.{points_drop, points_take, points_wide}
use Rattle.build_lines.specs.Taken.{Adds}
use Rattle.build_lines.proofs.Passing.{plain_at}
use Rattle.lent_laws.specs.Passes.{OwnPlace, FrameFine, PieceFine, Passes}
use Rattle.lent_laws.proofs.Tests.{flat_suc, flat_part}
use Rattle.lent_laws.proofs.Plain.{plain_low, plain_once, plain_is}
use Rattle.lent_laws.proofs.Places.{Place, all_places, places_none, each_take, each_drop}
use Rattle.lent_laws.proofs.Fitting.{part_length}
use Rattle.lent_judging.specs.declared.Record.{Record}
use Rattle.lent_judging.specs.Judging.{record_of, part, Framed, FrameJudged, OneFit, OneJudged, LinesLent, LinesFit, LinesJudged, points_bad, PointsCounted, Judgeable, PieceJudged}

-- ---- numbers

pub one_true : (b : Bool) → 0 < one b → b ≡ true
one_true true h = refl
one_true false h = absurd (omega arith)

-- marks of which none is above 1, one by one
above_none : (l : List ℕ) → ((i : ℕ) → i < length l → get_or l i 0 ≤ 1) → any_above 1 l ≡ false
unfolding any_above
above_none [] h = refl
above_none (a ∷ l) h = rw (le-ltb 1 a (h 0 (omega arith)), any_above) (above_none l (λ i k. h (suc i) (omega arith)))

above_told : (l : List ℕ) → any_above 1 l ≡ false → (i : ℕ) → i < length l → get_or l i 0 ≤ 1
unfolding any_above
above_told [] e i h = absurd (omega arith)
above_told (a ∷ l) e i h = go (ltb 1 a) refl i h (λ f. above_told l f)
  where
    go : (t : Bool) → ltb 1 a ≡ t → (i : ℕ) → i < length (a ∷ l) → (any_above 1 l ≡ false → (i : ℕ) → i < length l → get_or l i 0 ≤ 1) → get_or (a ∷ l) i 0 ≤ 1
    go true f i h ih = absurd (true≢false (rw (f, any_above) at e))
    go false f zero h ih = ltb-false 1 a f
    go false f (suc i) h ih = ih (rw (f, any_above) at e) i (omega arith)

-- one number from f on
one_part : (f : ℕ) (s : List ℕ) → f + 1 ≤ length s → take 1 (drop f s) ≡ get_or s f 0 ∷ []
one_part f s h = ap (take 1) (drop-cons s f 0 (omega arith))

alone_count : (y a : ℕ) → 0 < count y (a ∷ []) → y ≡ a
unfolding count
alone_count y a h = elim (ℕ_discrete y a) [ yes q ↦ q | no q ↦ absurd (omega (arith, one_other y a q)) ]

source_zero : (k : ℕ) (a b : List ℕ) → k ≡ 0 → source_of k a b ≡ a
unfolding source_of
source_zero k a b e = ap (λ (i : ℕ). source_of i a b) e

source_one : (k : ℕ) (a b : List ℕ) → k ≡ 1 → source_of k a b ≡ b
unfolding source_of
source_one k a b e = ap (λ (i : ℕ). source_of i a b) e

-- a part of places has places
pub part_places : (w : ℕ) (l : List ℕ) (f c : ℕ) → 2 ≤ w → any_nowhere (points w l) ≡ false → (f + c) * w ≤ length l → any_nowhere (points w (take (c * w) (drop (f * w) l))) ≡ false
part_places w l f c two e h =
    let o : 0 < w = omega arith in
    ap any_nowhere
    (points_take w (drop (f * w) l) c o (omega (arith, length-drop (f * w) l, add-mul f c w)) ∙ ap (take c) (points_drop w l f o))
    ∙ places_none (take c (drop f (points w l)))
    (each_take (Place w) _ c (each_drop (Place w) (points w l) f (all_places (points w l) (points_wide w l two) e)))

module _ (w : ℕ) (l : Lines) (p : LentPieces) where
  -- ---- the frame

  abbrev named_by : ℕ → Record
  named_by q = record_of p.records q

  frame_of : (q : ℕ) → FrameFine w l p q → Framed w l p (named_by q)
  frame_of q f =
      record {
        some_line = f.some_line;
        some_point = f.some_point;
        in_members = f.members_in;
        in_marks = f.marks_in;
        in_listing = f.listing_in;
        in_source = f.points_in;
      }

  pub frame_fine : (q : ℕ) → Framed w l p (named_by q) → FrameFine w l p q
  frame_fine q f =
      record {
        some_line = f.some_line;
        some_point = f.some_point;
        members_in = f.in_members;
        marks_in = f.in_marks;
        listing_in = f.in_listing;
        points_in = f.in_source;
      }

  refused : {seen' : List ℕ} {q : ℕ} → (Passes w l p → ⊥) → PieceJudged w l p seen' q true
  refused n = record { refused = λ e. n; passed = λ e. absurd (true≢false e) }

  module _ {seen places : List ℕ} {q : ℕ} (j : Judgeable w l p seen places q) where
    -- ---- the lines

    abbrev met : ℕ → ℕ
    met y = count y (flat_map (members_at w l p) (upto q))

    adds : Adds w l.counts l.coordinates
    adds = record { two = j.sized.two; sum = j.sized.adds }

    few : length l.counts ≤ most_lines
    few = j.sized.tabled.few

    abbrev Fits : Type 0
    Fits = LinesFit seen l.counts l.groups l.kinds (members_at w l p q) (marks_at w l p q) (listing_at w l p q)

    marked_plain : (y : ℕ) → y < length l.counts → 0 < count y (plain_lines w l) → plain_at l.counts l.kinds y ≡ true
    marked_plain y h k = one_true _ (omega (arith, plain_is w l adds y h))

    -- of pieces that pass
    passing_fit : Passes w l p → Fits
    passing_fit o =
        record {
          fit =
              record {
                low = low;
                plain = λ y k. marked_plain y (low y k) (omega (arith, all y));
                once = λ y k. omega (arith, all y, plain_once w l y, j.counted.marked y (omega (arith, low y k, few)));
                grouped = (o.fine q j.below).groups;
                drawn = above_told (marks_at w l p q) (o.fine q j.below).marks;
              };
          names = (o.fine q j.below).names;
        }
      where
        all : (y : ℕ) → met y + count y (members_at w l p q) ≤ count y (plain_lines w l)
        all y = omega (arith, flat_suc (members_at w l p) q y, flat_part (members_at w l p) y (suc q) p.number j.below, o.members y)

        low : (y : ℕ) → 0 < count y (members_at w l p q) → y < length l.counts
        low y k = plain_low w l y (omega (arith, all y))

    -- of a piece that fits
    fitting_fine : Fits → FrameFine w l p q → (member_count w l p q ≡ 1 → OwnPlace w l p q) → (member_count w l p q ≢ 1 → source w l p q ≡ 1)
        → any_nowhere (points w (numbers_at w l p q)) ≡ false → PieceFine w l p q
    fitting_fine t f own merged places' =
        record {
          frame = f;
          names = t.names;
          groups = t.fit.grouped;
          own = own;
          merged = merged;
          marks = above_none (marks_at w l p q) t.fit.drawn;
          places = places';
        }

    counted_next : {seen' : List ℕ} → Fits → length seen' ≡ most_lines
        → ((y : ℕ) → y < most_lines → get_or seen' y 0 ≡ get_or seen y 0 + count y (members_at w l p q) * 2) → PieceFine w l p q → PointsCounted w l p seen' (q + 1)
    counted_next t long noted fine =
        rw add-one (
        record {
          long = long;
          marked = λ y h. omega (arith, noted y h, j.counted.marked y h, flat_suc (members_at w l p) q y);
          within = within;
          same = λ y. omega (arith, flat_suc (members_at w l p) q y, flat_suc (listing_at w l p) q y, j.counted.same y, t.names y);
          fine = λ i h. elim (ℕ_discrete i q) [ yes e ↦ subst (λ (k : ℕ). PieceFine w l p k) (sym e) fine | no e ↦ j.counted.fine i (omega arith) ];
        }
        )
      where
        within : (y : ℕ) → count y (flat_map (members_at w l p) (upto (suc q))) ≤ count y (plain_lines w l)
        within y =
            elim (ℕ_discrete (count y (members_at w l p q)) 0) [
              | yes z ↦ omega (arith, flat_suc (members_at w l p) q y, j.counted.within y)
              | no d ↦
                  let k : 0 < count y (members_at w l p q) = pos_of _ d in
                  let low : y < length l.counts = t.fit.low y k in
                  omega (
                    arith,
                    flat_suc (members_at w l p) q y,
                    t.fit.once y k,
                    j.counted.marked y (omega (arith, few)),
                    plain_is w l adds y low,
                    ap one (t.fit.plain y k),
                  )
            ]

    module _ (f : FrameFine w l p q) where
      -- ---- one line

      module _ (d : member_count w l p q ≡ 1) where
        abbrev at : ℕ
        at = first_member w l p q

        abbrev line : ℕ
        line = get_or p.members at 0

        part_one : (s : List ℕ) → at + member_count w l p q ≤ length s → part_of w l p s q ≡ get_or s at 0 ∷ []
        unfolding part_of
        part_one s h = ap (λ (k : ℕ). take k (drop at s)) d ∙ one_part at s (omega arith)

        members_one : members_at w l p q ≡ line ∷ []
        members_one = part_one p.members f.members_in

        marks_one : marks_at w l p q ≡ get_or p.marks at 0 ∷ []
        marks_one = part_one p.marks f.marks_in

        listing_one : listing_at w l p q ≡ get_or p.listing at 0 ∷ []
        listing_one = part_one p.listing f.listing_in

        leader_one : leader w l p q ≡ line
        leader_one = ap (λ (t : List ℕ). get_or t 0 0) members_one

        abbrev One : Type 0
        One = OneFit seen l p (named_by q)

        line_here : 0 < count line (members_at w l p q)
        unfolding count
        line_here = rw members_one (omega (arith, one_same line line refl))

        -- of pieces that pass
        one_passing : Passes w l p → One
        unfolding count
        one_passing o =
            let t = passing_fit o in
            let own = (o.fine q j.below).own d in
            record {
              low = t.fit.low line line_here;
              unmet = omega (arith, t.fit.once line line_here, line_here);
              plain = t.fit.plain line line_here;
              same = sym (alone_count line (get_or p.listing at 0) (subst (λ (s : List ℕ). 0 < count line s) listing_one (omega (arith, t.names line, line_here))));
              drawn = let m = t.fit.drawn 0 (rw marks_one (omega arith)) in rw marks_one at m;
              input = own.input;
              first = own.first ∙ ap (λ (i : ℕ). total (take i l.counts)) leader_one;
              count = own.count ∙ ap (λ (i : ℕ). get_or l.counts i 0) leader_one;
            }

        -- of a line that fits
        one_fitting : One → Fits
        one_fitting t =
            rw (members_one, marks_one, listing_one) (
            record {
              fit =
                  record {
                    low = λ y k. subst (λ (i : ℕ). i < length l.counts) (sym (alone_count y line k)) t.low;
                    plain = λ y k. subst (λ (i : ℕ). plain_at l.counts l.kinds i ≡ true) (sym (alone_count y line k)) t.plain;
                    once = λ y k. once_alone y (alone_count y line k);
                    grouped = λ y k. ap (λ (i : ℕ). get_or l.groups i 0) (alone_count y line k);
                    drawn = drawn_alone;
                  };
              names = λ y. ap (λ (i : ℕ). count y (i ∷ [])) (sym t.same);
            }
            )
          where
            once_alone : (y : ℕ) → y ≡ line → get_or seen y 0 + count y (line ∷ []) ≤ 1
            once_alone y e = subst (λ (i : ℕ). get_or seen i 0 + count i (line ∷ []) ≤ 1) (sym e) (unfold count in omega (arith, t.unmet, one_same line line refl))

            drawn_alone : (i : ℕ) → i < length (get_or p.marks at 0 ∷ []) → get_or (get_or p.marks at 0 ∷ []) i 0 ≤ 1
            drawn_alone zero h = t.drawn
            drawn_alone (suc i) h = absurd (omega arith)

        one_places : One → any_nowhere (points w (numbers_at w l p q)) ≡ false
        unfolding numbers_at
        one_places t =
            ap (λ (s : List ℕ). any_nowhere (points w (take (point_count w l p q * w) (drop (first_point w l p q * w) s)))) (source_zero _ l.coordinates p.merged t.input)
            ∙ part_places w l.coordinates (first_point w l p q) (point_count w l p q) j.sized.two j.sized.places
            (omega (arith, f.points_in, ap length (source_zero _ l.coordinates p.merged t.input)))

        one_own : One → OwnPlace w l p q
        one_own t =
            record {
              input = t.input;
              first = t.first ∙ ap (λ (i : ℕ). total (take i l.counts)) (sym leader_one);
              count = t.count ∙ ap (λ (i : ℕ). get_or l.counts i 0) (sym leader_one);
            }

        one_noted : One → (y : ℕ) → y < most_lines → get_or (set seen line 2) y 0 ≡ get_or seen y 0 + count y (members_at w l p q) * 2
        unfolding count
        one_noted t y h =
            rw members_one
            (elim (ℕ_discrete y line) [
              | yes e ↦
                  let g : get_or (set seen line 2) y 0 ≡ 2 = ap (λ (i : ℕ). get_or (set seen line 2) i 0) e ∙ get_or-set_same seen line 2 0 (omega (arith, j.counted.long, t.low, few)) in
                  let z : get_or seen y 0 ≡ 0 = ap (λ (i : ℕ). get_or seen i 0) e ∙ t.unmet in
                  omega (arith, one_same y line e)
              | no e ↦ omega (arith, one_other y line e, get_or-set_other seen line y 2 0 e)
            ])

        -- A PIECE OF ONE LINE IS JUDGED
        pub one_judged : {seen' : List ℕ} {r : Bool}
            → OneJudged seen' seen l p (named_by q) r
            → PieceJudged w l p seen' q r
        one_judged {seen'} {r} v =
            record {
              refused = λ e o. v.unfit e (one_passing o);
              passed = λ e.
                  let t = v.fit e in
                  subst (λ (s : List ℕ). PointsCounted w l p s (q + 1)) (sym (v.noted e))
                  (counted_next (one_fitting t) (length-set seen line 2 ∙ j.counted.long) (one_noted t)
                  (fitting_fine (one_fitting t) f (λ _. one_own t) (λ n. absurd (n d)) (one_places t)));
            }

      -- ---- more lines

      pub lines_lent : LinesLent seen l.counts l.groups l.kinds (members_at w l p q) (marks_at w l p q) (listing_at w l p q)
      unfolding part_of
      lines_lent =
          let a = part_length (first_member w l p q) (member_count w l p q) p.members f.members_in in
          record {
            even = record { long = j.counted.long; even = λ y h e. omega (arith, j.counted.marked y h) };
            tabled = j.sized.tabled;
            some_line = omega (arith, f.some_line);
            marks_long = part_length (first_member w l p q) (member_count w l p q) p.marks f.marks_in ∙ sym a;
            listing_long = part_length (first_member w l p q) (member_count w l p q) p.listing f.listing_in ∙ sym a;
          }

      cut_is : (s : List ℕ) → part (named_by q) s ≡ part_of w l p s q
      unfolding part_of
      cut_is s =
          let e : first_member w l p q + member_count w l p q - first_member w l p q ≡ member_count w l p q = omega arith in
          ap (λ (k : ℕ). take k (drop (first_member w l p q) s)) e

      uncut : {seen₁ : List ℕ} {r : Bool} → LinesJudged seen₁ seen l.counts l.groups l.kinds (part (named_by q) p.members) (part (named_by q) p.marks) (part (named_by q) p.listing) r
          → LinesJudged seen₁ seen l.counts l.groups l.kinds (members_at w l p q) (marks_at w l p q) (listing_at w l p q) r
      uncut v = rw (cut_is p.members, cut_is p.marks, cut_is p.listing) at v

      module _ (n : member_count w l p q ≢ 1) where
        points_of_lem : source w l p q ≡ 1 → points_bad w (named_by q) p.merged ≡ any_nowhere (points w (take (point_count w l p q * w) (drop (first_point w l p q * w) p.merged)))
        unfolding points_bad
        points_of_lem e = rw (eq-eqb (source w l p q) 1 e, points_bad)

        merged_of : points_bad w (named_by q) p.merged ≡ false → source w l p q ≡ 1
        unfolding points_bad
        merged_of e = elim (ℕ_discrete (source w l p q) 1) [ yes d ↦ d | no d ↦ absurd (true≢false (rw (ne_eqb (source w l p q) 1 d, points_bad) at e)) ]

        numbers_of : source w l p q ≡ 1 → points w (numbers_at w l p q) ≡ points w (take (point_count w l p q * w) (drop (first_point w l p q * w) p.merged))
        unfolding numbers_at
        numbers_of e = ap (λ (s : List ℕ). points w (take (point_count w l p q * w) (drop (first_point w l p q * w) s))) (source_one _ l.coordinates p.merged e)

        pub merged_inside : source w l p q ≡ 1 → (first_point w l p q + point_count w l p q) * w ≤ length p.merged
        merged_inside e = omega (arith, f.points_in, ap length (source_one _ l.coordinates p.merged e))

        module _ {seen₁ : List ℕ} {r : Bool}
            (v : LinesJudged seen₁ seen l.counts l.groups l.kinds (part (named_by q) p.members) (part (named_by q) p.marks) (part (named_by q) p.listing) r) where
          pub more_refused : {seen' : List ℕ} → r ≡ true → PieceJudged w l p seen' q true
          more_refused e = refused (λ o. (uncut v).unfit e (passing_fit o))

          -- A PIECE OF MORE LINES IS JUDGED
          pub more_judged : {b : Bool} → r ≡ false → b ≡ points_bad w (named_by q) p.merged → PieceJudged w l p seen₁ q b
          more_judged {b} e u =
              record {
                refused = λ t o.
                    let m = (o.fine q j.below).merged n in
                    true≢false (sym t ∙ u ∙ points_of_lem m ∙ ap any_nowhere (sym (numbers_of m)) ∙ (o.fine q j.below).places);
                passed = λ t.
                    let m = merged_of (sym u ∙ t) in
                    counted_next ((uncut v).fit e) ((uncut v).long e) ((uncut v).noted e)
                    (fitting_fine ((uncut v).fit e) f (λ d. absurd (n d)) (λ _. m) (ap any_nowhere (numbers_of m) ∙ sym (points_of_lem m) ∙ sym u ∙ t));
              }
