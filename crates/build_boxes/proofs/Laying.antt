-- The chains' own boxes, written one behind another; then the levels above them.
use Prim.Native.Nat.{ℕ, zero, suc, ◌+◌, ◌*◌, ◌≤◌, ◌<◌}
use mathlib.Core.Path.{◌≡◌, refl, sym, ap, subst, ◌∙◌}
use mathlib.Core.Bool.{false}
use mathlib.Core.List.{List, [], ◌∷◌, ◌++◌, map, map-append}
use native.Mathlib.Nat.{add-zero, zero-add, add-mul}
use native.Mathlib.Omega.{arith}
use lib.ListN.{length, drop, length-map, length-drop}
use lib.Seq.{length-take-le}
use Rattle.rules.specs.declared.Box.{Box}
use Rattle.rules.specs.Lists.{from, upto}
use Rattle.rules.specs.Plane.{points}
use Rattle.rules.specs.Boxes.{box_of, levels, stacked, box_numbers, four, box_at}
use Rattle.rules.specs.Refusals.{no_chain, entry, source_of}
use Rattle.rules.specs.Calls.{written}
use Rattle.point_numbers.specs.Width.{Whole}
use Rattle.point_slices.specs.Holds.{HoldsFrom}
use Rattle.point_slices.proofs.Laws.{from_start, from_then, from_length, drop_beyond}
use Rattle.chain_laws.proofs.Counts.{upto_length}
use Rattle.box_laws.specs.Sound.{BoxSound}
use Rattle.box_laws.specs.Rows.{row, nth}
use Rattle.box_laws.proofs.Runs.{upto_more}
use Rattle.box_laws.proofs.Rows.{boxes_append, boxes_length, row_back, row_at}
use Rattle.box_laws.proofs.Levels.{levels_long}
use Rattle.box_laws.proofs.Unions.{box_sound}
use Rattle.box_levels.specs.declared.Extent.{Extent}
use Rattle.box_levels.specs.Extents.{boxed_of, Real, Boxed}
use Rattle.box_levels.specs.Lying.{Lying, Raisable}
use Rattle.box_levels.proofs.Extents.{real_of, boxed_back}
use Rattle.build_question.specs.Parts.{part_of}
use Rattle.build_question.proofs.Laws.{stands, part_there}
use Rattle.build_boxes.specs.Boxing.{chain_points, chain_boxes, Boxable}

module _ (w : ℕ) (input merged table : List ℕ) where
  abbrev own : ℕ → Box
  own j = box_of (chain_points w input merged table j)

  -- a chain's coordinates are whole points
  part_whole : (j : ℕ) → no_chain w input merged table j ≡ false → Whole w (part_of w input merged table j)
  part_whole j e =
      let s = stands w input merged table j e in
      let f = entry table j 3 in
      let c = entry table j 4 in
      let l = source_of (entry table j 2) input merged in
      record {
        number = c;
        long = ap length (part_there w input merged table j e) ∙ length-take-le (c * w) (drop (f * w) l) (omega (arith, s.part, add-mul f c w, length-drop (f * w) l));
      }

  pub part_lying : {k : ℕ} {boxes : List ℕ} → Boxable w input merged table k boxes → (j : ℕ) → j < k → (part : List ℕ) → part ≡ part_of w input merged table j → Lying w part
  part_lying b j h part e = subst (Lying w) (sym e) (record { two = b.two; narrow = b.narrow; whole = part_whole j (b.there j h); places = b.places j h })

  -- what may be stored of its extent, and what that is
  module _ {k : ℕ} {boxes : List ℕ} (b : Boxable w input merged table k boxes) (j : ℕ) (h : j < k) {e : Extent} (part : List ℕ) (z : part ≡ part_of w input merged table j)
      (x : Boxed e (box_of (points w part))) where
    own_boxed : Boxed e (own j)
    own_boxed = subst (λ (l : List ℕ). Boxed e (box_of (points w l))) z x

    pub own_real : Real e
    own_real = real_of own_boxed (box_sound (chain_points w input merged table j) (b.places j h))

    pub own_back : boxed_of e ≡ own j
    own_back = boxed_back own_boxed (box_sound (chain_points w input merged table j) (b.places j h))

  boxes_are : (k : ℕ) → length (chain_boxes w input merged table k) ≡ k
  unfolding chain_boxes
  boxes_are k = length-map (upto k) own ∙ upto_length k

  boxes_more : (j : ℕ) → box_numbers (chain_boxes w input merged table (j + 1)) ≡ box_numbers (chain_boxes w input merged table j) ++ four (own j)
  unfolding chain_boxes box_numbers
  boxes_more j =
      ap (λ (l : List ℕ). box_numbers (map own l)) (upto_more j) ∙ ap box_numbers (map-append own (upto j) (j ∷ [])) ∙ boxes_append (map own (upto j)) (own j ∷ [])

  nth_from : (k n i : ℕ) → i < n → nth (map own (from k n)) i ≡ own (k + i)
  unfolding from
  nth_from k zero i h = absurd (omega arith)
  nth_from k (suc n) zero h = ap own (sym (add-zero k))
  nth_from k (suc n) (suc i) h = let e : suc k + i ≡ k + suc i = omega arith in nth_from (suc k) n i (omega arith) ∙ ap own e

  -- after j turns
  pub record Laid (b₀ b : List ℕ) (j : ℕ) : Type 0 where
    pub size : length b ≡ length b₀
    pub holds : HoldsFrom b b₀ 0 (j * 4) (box_numbers (chain_boxes w input merged table j))

  pub laid_start : (b₀ : List ℕ) → Laid b₀ b₀ 0
  unfolding chain_boxes upto from box_numbers
  laid_start b₀ = record { size = refl; holds = from_start b₀ 0 }

  pub laid_more : {b₀ b b' : List ℕ} {j : ℕ} (x : Box) → Laid b₀ b j → j * 4 + 4 ≤ length b₀ → x ≡ own j → HoldsFrom b' b (j * 4) 4 (four x) → Laid b₀ b' (j + 1)
  laid_more {b₀} {b} {b'} {j} x p room e h =
      let z : j * 4 + 4 ≡ (j + 1) * 4 = omega arith in
      let before = box_numbers (chain_boxes w input merged table j) in
      let all : before ++ four x ≡ box_numbers (chain_boxes w input merged table (j + 1)) = ap {B = List ℕ} (λ (y : Box). before ++ four y) e ∙ sym (boxes_more j) in
      let two : HoldsFrom b' b₀ 0 (j * 4 + 4) (before ++ four x) =
      from_then p.holds (omega arith) (subst (λ (at : ℕ). HoldsFrom b' b at 4 (four x)) (sym (zero-add (j * 4))) h) in
      record {
        size = from_length h (omega (arith, p.size)) ∙ p.size;
        holds = subst (λ (r : ℕ). HoldsFrom b' b₀ 0 r (box_numbers (chain_boxes w input merged table (j + 1)))) z (subst (λ (out : List ℕ). HoldsFrom b' b₀ 0 (j * 4 + 4) out) all two);
      }

  module _ {b₀ b : List ℕ} (k : ℕ) (p : Laid b₀ b k) where
    abbrev l : List Box
    l = chain_boxes w input merged table k

    stand : b ≡ box_numbers l ++ drop (k * 4) b₀
    stand = p.holds.list ∙ ap {B = List ℕ} (λ (x : ℕ). box_numbers l ++ drop x b₀) (zero-add (k * 4))

    row_is : row b 0 k ≡ l
    row_is = ap (row b 0) (sym (boxes_are k)) ∙ row_back b 0 l (drop (k * 4) b₀) stand

    nth_own : (i : ℕ) → i < k → nth l i ≡ own i
    unfolding chain_boxes upto
    nth_own i h = nth_from 0 k i h ∙ ap own (zero-add i)

    pub laid_raisable : Boxable w input merged table k b₀ → Raisable b k
    laid_raisable y = record {
      room = omega (arith, y.room, p.size);
      few = y.few;
      sound = λ i h.
          let z : 0 + i ≡ i = omega arith in
          subst BoxSound (sym (ap (box_at b) (sym z) ∙ sym (row_at b 0 k i h) ∙ ap (λ (x : List Box). nth x i) row_is ∙ nth_own i h))
          (box_sound (chain_points w input merged table i) (y.places i h));
    }

    pub laid_done : written (box_numbers (stacked (row b 0 k))) b ≡ written (box_numbers (stacked l)) b₀
    unfolding written stacked
    laid_done =
        let s = box_numbers (levels (length l) l) in
        ap {B = List ℕ} (λ (x : List Box). box_numbers (levels (length x) x) ++ drop (length (box_numbers (levels (length x) x))) b) row_is
        ∙ ap {B = List ℕ} (λ (x : List ℕ). s ++ drop (length s) x) stand
        ∙ ap {B = List ℕ} (λ (x : List ℕ). s ++ x)
        (drop_beyond (box_numbers l) b₀ (k * 4) (length s) (omega (arith, boxes_length l, boxes_are k)) (omega (arith, boxes_length (levels (length l) l), levels_long (length l) l, boxes_are k)))
