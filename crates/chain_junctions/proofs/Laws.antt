-- One end put into a pairing's part, and one end more of a list.
use Prim.Native.Nat.{ℕ, ◌+◌, ◌-◌, ◌*◌, ◌/◌, ◌%◌, ◌≤◌, ◌<◌}
use mathlib.Core.Path.{◌≡◌, sym, ap, ap₂, subst, ◌∙◌}
use mathlib.Core.Logic.{◌≢◌}
use mathlib.Core.List.{List}
use native.Mathlib.Omega.{arith}
use native.Mathlib.Decide.{ℕ_discrete}
use lib.Ieee.{Float}
use lib.ListN.{length, get_or, set, take, drop, length-set, length-append, length-drop, get_or-append}
use lib.Seq.{get_or-set_same, get_or-set_other, length-take-le, drop_at, get_or-take, get_or-drop}
use borrow.Rule.Slice.PartMut.{mid_of, put_mid}
use Rattle.rules.specs.Answers.{Direction}
use Rattle.rules.specs.Answers.{Absent, Toward}
use Rattle.rules.specs.Plane.{float, points, direction_of}
use Rattle.rules.specs.Layout.{given}
use Rattle.rules.specs.Refusals.{piece_size, source_of}
use Rattle.point_direction.specs.Seen.{seen}
use Rattle.chain_pieces.specs.Held.{record_of, coordinates_at, Recorded}
use Rattle.point_slices.proofs.Laws.{mid_rest, put_rest}
use Rattle.pair_ends.specs.Ends.{direction_at, piece_at, EndsRoom}
use Rattle.pair_ends.proofs.Reading.{direction_toward, direction_absent}
use Rattle.chain_grouping.proofs.Space.{four, four_other, four_a, four_b, four_c, four_d}
use Rattle.chain_junctions.specs.Junction.{way_at, EndPut, JunctionEnds}
use Rattle.pair_ends.specs.Blocks.{pairs_from, pieces_from}

-- ---- one end

direction_same : (w' w : List ℕ) (d k : ℕ) → get_or w' k 0 ≡ get_or w k 0 → get_or w' (d + k * 2) 0 ≡ get_or w (d + k * 2) 0
    → get_or w' (d + k * 2 + 1) 0 ≡ get_or w (d + k * 2 + 1) 0 → direction_at w' d k ≡ direction_at w d k
unfolding direction_at
direction_same w' w d k a b c = λ i. given (a i) (float (b i)) (float (c i))

module _ (w : List ℕ) (d i piece : ℕ) (R : EndsRoom w d) (h : i < d) where
  abbrev absent : List ℕ
  absent = set (set w (d * pieces_from + i) piece) i 0

  absent_other : (j : ℕ) → j ≢ d * pieces_from + i → j ≢ i → get_or absent j 0 ≡ get_or w j 0
  absent_other j a b = get_or-set_other (set w (d * pieces_from + i) piece) i j 0 0 b ∙ get_or-set_other w (d * pieces_from + i) j piece 0 a

  absent_put : EndPut absent w d i Absent piece
  absent_put =
      let l = R.long in
      record {
        direction = sym (direction_absent absent d i (λ e.
            omega (arith, e, get_or-set_same (set w (d * pieces_from + i) piece) i 0 0 (omega (arith, length-set w (d * pieces_from + i) piece)))));
        number = get_or-set_other (set w (d * pieces_from + i) piece) i (d * pieces_from + i) 0 0 (λ q. omega arith) ∙ get_or-set_same w (d * pieces_from + i) piece 0 (omega arith);
        others = λ k b n. (
          direction_same absent w d k
              (absent_other k (λ q. omega arith) n)
              (absent_other (d + k * 2) (λ q. omega arith) (λ q. omega arith))
              (absent_other (d + k * 2 + 1) (λ q. omega arith) (λ q. omega arith)),
          absent_other (d * pieces_from + k) (λ q. n (omega arith)) (λ q. omega arith),
        );
        beyond = λ j b. absent_other j (λ q. omega arith) (λ q. omega arith);
      }

  pub end_absent : (way : Direction) → way ≡ Absent → EndPut absent w d i way piece
  end_absent way e = subst (λ (v : Direction). EndPut absent w d i v piece) (sym e) absent_put

  module _ (a b : ℕ) (x y : Float) (ax : float a ≡ x) (by : float b ≡ y) where
    abbrev toward : List ℕ
    toward = four w (d * pieces_from + i) piece (d + i * 2) a (d + i * 2 + 1) b i 1

    toward_other : (j : ℕ) → j ≢ d * pieces_from + i → j ≢ d + i * 2 → j ≢ d + i * 2 + 1 → j ≢ i → get_or toward j 0 ≡ get_or w j 0
    toward_other = four_other w (d * pieces_from + i) piece (d + i * 2) a (d + i * 2 + 1) b i 1

    toward_put : EndPut toward w d i (Toward x y) piece
    toward_put =
        let l = R.long in
        record {
          direction =
              sym (direction_toward toward d i (four_d w (d * pieces_from + i) piece (d + i * 2) a (d + i * 2 + 1) b i 1 (omega arith)))
              ∙ ap₂ Toward
              (ap float (four_b w (d * pieces_from + i) piece (d + i * 2) a (d + i * 2 + 1) b i 1 (omega arith) (λ q. omega arith) (λ q. omega arith)) ∙ ax)
              (ap float (four_c w (d * pieces_from + i) piece (d + i * 2) a (d + i * 2 + 1) b i 1 (omega arith) (λ q. omega arith)) ∙ by);
          number = four_a w (d * pieces_from + i) piece (d + i * 2) a (d + i * 2 + 1) b i 1 (omega arith) (λ q. omega arith) (λ q. omega arith) (λ q. omega arith);
          others = λ k c n. (
            direction_same toward w d k
                (toward_other k (λ q. omega arith) (λ q. omega arith) (λ q. omega arith) n)
                (toward_other (d + k * 2) (λ q. omega arith) (λ q. n (omega arith)) (λ q. omega arith) (λ q. omega arith))
                (toward_other (d + k * 2 + 1) (λ q. omega arith) (λ q. omega arith) (λ q. n (omega arith)) (λ q. omega arith)),
            toward_other (d * pieces_from + k) (λ q. n (omega arith)) (λ q. omega arith) (λ q. omega arith) (λ q. omega arith),
          );
          beyond = λ j c. toward_other j (λ q. omega arith) (λ q. omega arith) (λ q. omega arith) (λ q. omega arith);
        }

    pub end_toward : (way : Direction) → way ≡ Toward x y → EndPut toward w d i way piece
    end_toward way e = subst (λ (v : Direction). EndPut toward w d i v piece) (sym e) toward_put

-- ---- what a record names, where the workspace below a place stays

abbrev pub Same : List ℕ → List ℕ → ℕ → Type 0
Same w' w k = (j : ℕ) → j < k → get_or w' j 0 ≡ get_or w j 0

module _ (width : ℕ) (w' w : List ℕ) (k p : ℕ) (input spare : List ℕ) (s : Same w' w k) (h : p + piece_size ≤ k) where
  pub source_same : source_of (get_or w' (p + 2) 0) input spare ≡ source_of (get_or w (p + 2) 0) input spare
  source_same = ap (λ (i : ℕ). source_of i input spare) (s (p + 2) (omega arith))

  pub coordinates_same : coordinates_at width w' p input spare ≡ coordinates_at width w p input spare
  unfolding coordinates_at
  coordinates_same = λ i. take (s (p + 4) (omega arith) i * width) (drop (s (p + 3) (omega arith) i * width) (source_same i))

  pub recorded_same : length w' ≡ length w → Recorded width w p input spare → Recorded width w' p input spare
  recorded_same n R =
      record {
        inside = omega (arith, R.inside);
        within = rw (source_same, s (p + 3) (omega arith), s (p + 4) (omega arith)) R.within;
      }

-- ---- a part that is lent

-- the part, once it is back, stands where it stood; before it all is as it was
module _ (w sub : List ℕ) (part : ℕ) (h : part ≤ length w) where
  pub back_drop : drop part (put_mid part (length w - part) w sub) ≡ sub
  back_drop = ap (drop part) (put_rest w sub part) ∙ drop_at (take part w) sub part (length-take-le part w h)

  pub back_front : Same (put_mid part (length w - part) w sub) w part
  back_front j b =
      ap (λ (l : List ℕ). get_or l j 0) (put_rest w sub part)
      ∙ get_or-append (take part w) sub 0 j (omega (arith, length-take-le part w h))
      ∙ get_or-take part w j 0 b

  pub back_length : length sub ≡ length (mid_of part (length w - part) w) → length (put_mid part (length w - part) w sub) ≡ length w
  back_length e =
      ap length (put_rest w sub part) ∙ length-append (take part w) sub
      ∙ (omega (arith, length-take-le part w h, e, ap length (mid_rest w part), length-drop part w))

-- ---- one end more

module _ (width records list part d : ℕ) (input spare : List ℕ) where
  -- after i ends
  pub record Ending (w w₀ : List ℕ) (i : ℕ) : Type 0 where
    pub size : length w ≡ length w₀
    pub direction : (k : ℕ) → k < i → direction_at (drop part w) d k ≡ way_at width w₀ records input spare (get_or w₀ (list + k) 0)
    pub number : (k : ℕ) → k < i → piece_at (drop part w) d k ≡ get_or w₀ (list + k) 0 / 2
    pub front : Same w w₀ part
    pub beyond : (j : ℕ) → part + d * pairs_from ≤ j → get_or w j 0 ≡ get_or w₀ j 0

  module _ (w w₀ : List ℕ) (i : ℕ) (G : Ending w w₀ i) (J : JunctionEnds width w₀ records list part d input spare) (h : i < d) where
    pub end_here : get_or w (list + i) 0 ≡ get_or w₀ (list + i) 0
    end_here = let l = J.listed in G.front (list + i) (omega arith)

    -- the record of the end's piece
    place_here : record_of records (get_or w (list + i) 0 / 2) ≡ record_of records (get_or w₀ (list + i) 0 / 2)
    place_here = ap (λ (e : ℕ). record_of records (e / 2)) end_here

    way_here : way_at width w records input spare (get_or w (list + i) 0) ≡ way_at width w₀ records input spare (get_or w₀ (list + i) 0)
    unfolding way_at
    way_here =
        ap (way_at width w records input spare) end_here
        ∙ ap (λ (l : List ℕ). direction_of (seen (get_or w₀ (list + i) 0 % 2) (points width l)))
        (coordinates_same width w w₀ part (record_of records (get_or w₀ (list + i) 0 / 2)) input spare G.front (J.below i h))

    pub ending_step : (sub : List ℕ) (way : Direction) (piece : ℕ)
        → EndPut sub (mid_of part (length w - part) w) d i way piece
        → length sub ≡ length (mid_of part (length w - part) w)
        → way ≡ way_at width w records input spare (get_or w (list + i) 0) → piece ≡ get_or w (list + i) 0 / 2
        → Ending (put_mid part (length w - part) w sub) w₀ (i + 1)
    ending_step sub way piece P n v q =
        let r = J.room in
        let z = G.size in
        let c : part ≤ length w = omega arith in
        let D = back_drop w sub part c in
        let m = mid_rest w part in
        record {
          size = back_length w sub part c n ∙ z;
          direction = λ k b. elim (ℕ_discrete k i) [
            | yes e ↦
                ap₂ (λ (l : List ℕ) (j : ℕ). direction_at l d j) D e ∙ P.direction ∙ v ∙ way_here
                ∙ ap (λ (j : ℕ). way_at width w₀ records input spare (get_or w₀ (list + j) 0)) (sym e)
            | no e ↦
                ap (λ (l : List ℕ). direction_at l d k) D ∙ (P.others k (omega arith) e).0
                ∙ ap (λ (l : List ℕ). direction_at l d k) m ∙ G.direction k (omega arith)
          ];
          number = λ k b. elim (ℕ_discrete k i) [
            | yes e ↦
                ap₂ (λ (l : List ℕ) (j : ℕ). piece_at l d j) D e ∙ P.number ∙ q ∙ ap (λ (x : ℕ). x / 2) end_here
                ∙ ap (λ (j : ℕ). get_or w₀ (list + j) 0 / 2) (sym e)
            | no e ↦
                ap (λ (l : List ℕ). piece_at l d k) D ∙ (P.others k (omega arith) e).1
                ∙ ap (λ (l : List ℕ). piece_at l d k) m ∙ G.number k (omega arith)
          ];
          front = λ j b. back_front w sub part c j b ∙ G.front j b;
          beyond = λ j b.
              let p : part + (j - part) ≡ j = omega arith in
              ap (λ (x : ℕ). get_or (put_mid part (length w - part) w sub) x 0) (sym p)
              ∙ sym (get_or-drop part (put_mid part (length w - part) w sub) (j - part) 0)
              ∙ ap (λ (l : List ℕ). get_or l (j - part) 0) D
              ∙ P.beyond (j - part) (omega arith)
              ∙ ap (λ (l : List ℕ). get_or l (j - part) 0) m
              ∙ get_or-drop part w (j - part) 0
              ∙ ap (λ (x : ℕ). get_or w x 0) p
              ∙ G.beyond j b;
        }
