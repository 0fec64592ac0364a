-- A line read point by point in a direction, and compared with the chain: with so many points kept that stand in the chain, what is left of the line lays the
-- rest of its laid run, and as many of that stand behind them as stand in all.
use Prim.Native.Nat.{ℕ, suc, ◌+◌, ◌-◌, ◌*◌, ◌≤◌, ◌<◌}
use mathlib.Core.Path.{◌≡◌, refl, sym, ap, ap₂, ◌∙◌}
use mathlib.Core.Bool.{Bool, true, false, ◌&&◌, cond, and-eq-true_iff}
use mathlib.Core.List.{List, [], ◌∷◌, reverse}
use mathlib.Core.Option.{Option, none, some}
use Rattle.std.specs.Prelude.{Some, None}
use Rattle.std.specs.Prelude as code
use native.Mathlib.Omega.{arith}
use native.Mathlib.Nat.{lt_of_mul-lt-mul_right, mul-le-mul_right}
use lib.Dec.{ltb}
use lib.ListN.{length, take, drop, get_or, length-drop}
use lib.Seq.{get_or-drop}
use borrow.Author.Tests.{lt-ltb, ltb-true, ne_eqb, eq-eqb}
use Rattle.rules.specs.Plane.{Point, point, points, equal}
use Rattle.rules.specs.Chaining.{lay}
use Rattle.point_numbers.specs.Width.{point_at, Multiple, Whole}
use Rattle.point_numbers.proofs.Points.{at_x, at_y, points_from, points_past, points_few, points_drop, multiple_less, turned_one, turned_none, turned_all}
use Rattle.check_laws.specs.Standing.{common, run, laid_run, standing}
use Rattle.check_laws.proofs.Common.{common_more, common_stop, common_none}
use Rattle.check_laws.proofs.Points.{standing_right}
use Rattle.check_places.specs.Places.{PlaceGround, number_stands, last_kept, met, Reached}

-- ---- whole points

-- a place that begins before the end has all its numbers
pub whole_next : (w : ℕ) (l : List ℕ) → Whole w l → (k : ℕ) → k * w < length l → k * w + w ≤ length l
whole_next w l h k b =
    let q : k * w < h.number * w = omega (arith, h.long) in
    let r = mul-le-mul_right w (lt_of_mul-lt-mul_right w {m = k} {n = h.number} q) in
    omega (arith, h.long, r, sums k w)
  where
    sums : (k w : ℕ) → suc k * w ≡ k * w + w
    sums k w = omega arith

-- ---- points of the chain by their numbers

module _ (w : ℕ) (chain : List ℕ) (two : 2 ≤ w) (h : Whole w chain) where
  abbrev t : List Point
  t = points w chain

  pub point_there : (k : ℕ) → k * w < length chain → drop k t ≡ point_at w chain (k * w) ∷ drop (suc k) t
  point_there k b =
      let n : k * w + w ≡ suc k * w = omega arith in
      sym (points_drop w chain k (omega arith)) ∙ points_from w chain (k * w) (omega arith) (whole_next w chain h k b)
      ∙ ap {B = List Point} (λ (i : ℕ). point_at w chain (k * w) ∷ points w (drop i chain)) n
      ∙ ap {B = List Point} (λ (l : List Point). point_at w chain (k * w) ∷ l) (points_drop w chain (suc k) (omega arith))

  point_beyond : (k : ℕ) → length chain ≤ k * w → drop k t ≡ []
  point_beyond k b =
      sym (points_drop w chain k (omega arith)) ∙ points_few w (drop (k * w) chain) (omega (arith, length-drop (k * w) chain))

  -- the point at a place, compared with x and y
  equal_there : (k : ℕ) (p : Point) → equal (point_at w chain (k * w)) p ≡ equal (point (get_or chain (k * w) 0) (get_or chain (k * w + 1) 0)) (point p.x p.y)
  unfolding equal
  equal_there k p = ap₂ (λ (a b : ℕ). equal (point a b) p) (at_x w two chain (k * w)) (at_y w two chain (k * w))

  pub stands_there : (k : ℕ) (p : Point) (x : List Point) → number_stands chain (k * w) (point p.x p.y) ≡ true
      → common equal (drop k t) (p ∷ x) ≡ suc (common equal (drop (suc k) t) x)
  unfolding number_stands
  stands_there k p x e =
      let s = (and-eq-true_iff (ltb (k * w) (length chain)) (equal (point (get_or chain (k * w) 0) (get_or chain (k * w + 1) 0)) (point p.x p.y))).0 e in
      let b : k * w < length chain = ltb-true (k * w) (length chain) s.0 in
      ap (λ (l : List Point). common equal l (p ∷ x)) (point_there k b)
      ∙ common_more equal (point_at w chain (k * w)) (drop (suc k) t) p x (equal_there k p ∙ s.1)

  -- and from the point to its numbers
  pub there_stands : (k : ℕ) (p : Point) → k * w < length chain → equal (point_at w chain (k * w)) p ≡ true → number_stands chain (k * w) (point p.x p.y) ≡ true
  unfolding number_stands
  there_stands k p b e =
      (and-eq-true_iff (ltb (k * w) (length chain)) (equal (point (get_or chain (k * w) 0) (get_or chain (k * w + 1) 0)) (point p.x p.y))).1
      (lt-ltb (k * w) (length chain) b, sym (equal_there k p) ∙ e)

  pub stands_not : (k : ℕ) (p : Point) (x : List Point) → number_stands chain (k * w) (point p.x p.y) ≡ false → common equal (drop k t) (p ∷ x) ≡ 0
  unfolding number_stands common
  stands_not k p x e = go (ltb (k * w) (length chain)) refl
    where
      go : (b : Bool) → ltb (k * w) (length chain) ≡ b → common equal (drop k t) (p ∷ x) ≡ 0
      go true q =
          ap (λ (l : List Point). common equal l (p ∷ x)) (point_there k (ltb-true (k * w) (length chain) q))
          ∙ common_stop equal (point_at w chain (k * w)) (drop (suc k) t) p x
          (equal_there k p ∙ sym (ap (λ (b : Bool). b && equal (point (get_or chain (k * w) 0) (get_or chain (k * w + 1) 0)) (point p.x p.y)) q) ∙ e)
      go false q = ap (λ (l : List Point). common equal l (p ∷ x)) (point_beyond k (borrow.Author.Tests.ltb-false (k * w) (length chain) q))

-- ---- what is left of a line

unfoldable pub rest_of : ℕ → Bool → List ℕ → ℕ → List Point
rest_of w turned line left = cond turned (reverse (points w (take left line))) (points w (drop (length line - left) line))

module _ (w : ℕ) (line : List ℕ) (two : 2 ≤ w) where
  pub rest_all : (turned : Bool) → rest_of w turned line (length line) ≡ run turned (points w line)
  unfolding rest_of run
  rest_all true = turned_all w line (omega arith)
  rest_all false = let e : length line - length line ≡ 0 = omega arith in ap (λ (i : ℕ). points w (drop i line)) e

  pub rest_none : (turned : Bool) (left : ℕ) → left ≤ 0 → rest_of w turned line left ≡ []
  unfolding rest_of
  rest_none true left h = turned_none w line (omega arith) left h
  rest_none false left h = points_past w line (length line - left) (omega arith) (omega arith)

  -- its next point, where so many numbers are left behind it
  pub rest_next : (turned : Bool) (left : ℕ) → Multiple w left → 0 < left → left ≤ length line
      → rest_of w turned line left ≡ point_at w line (cond turned (left - w) (length line - w - (left - w))) ∷ rest_of w turned line (left - w)
  unfolding rest_of
  rest_next true left m h b = turned_one w line (omega arith) left m h b
  rest_next false left m h b =
      let s = multiple_less m h in
      let e : length line - left ≡ length line - w - (left - w) = omega (arith, s.0) in
      let f : length line - left + w ≡ length line - (left - w) = omega (arith, s.0) in
      points_from w line (length line - left) (omega arith) (omega (arith, s.0))
      ∙ ap₂ {C = List Point} (λ (i j : ℕ). point_at w line i ∷ points w (drop j line)) e f

-- ---- what is laid behind a point looks at its x and y

lay_last : (q : Point) (l : List Point) → lay (some q) l ≡ lay (some (point q.x q.y)) l
unfolding lay equal
lay_last q [] = refl
lay_last q (p ∷ l) = go (equal q p) refl (lay_last q l)
  where
    go : (b : Bool) → equal q p ≡ b → lay (some q) l ≡ lay (some (point q.x q.y)) l → lay (some q) (p ∷ l) ≡ lay (some (point q.x q.y)) (p ∷ l)
    go true e f = lay_met q p l e ∙ f ∙ sym (lay_met (point q.x q.y) p l e)
      where
        lay_met : (q p : Point) (l : List Point) → equal q p ≡ true → lay (some q) (p ∷ l) ≡ lay (some q) l
        lay_met q p l e = rw (e, lay)
    go false e f = lay_kept q p l e ∙ sym (lay_kept (point q.x q.y) p l e)
      where
        lay_kept : (q p : Point) (l : List Point) → equal q p ≡ false → lay (some q) (p ∷ l) ≡ p ∷ lay (some p) l
        lay_kept q p l e = rw (e, lay)

lay_repeat : (o : Option Point) (p : Point) (l : List Point) → met o p ≡ true → lay o (p ∷ l) ≡ lay o l
unfolding lay met
lay_repeat none p l e = let z : ◌≡◌ {A = ℕ} 0 1 = cc in absurd (omega arith)
lay_repeat (some q) p l e = rw (e, lay)

lay_keep : (o : Option Point) (p : Point) (l : List Point) → met o p ≡ false → lay o (p ∷ l) ≡ p ∷ lay (some p) l
unfolding lay met
lay_keep none p l e = refl
lay_keep (some q) p l e = rw (e, lay)

met_last : (o : Option Point) (p : Point) → met o p ≡ met o (point p.x p.y)
unfolding met equal
met_last none p = refl
met_last (some q) p = refl

-- ---- reading

module _ (w : ℕ) (chain line : List ℕ) (turned : Bool) (at : ℕ) where
  abbrev pub run_laid : List Point
  run_laid = laid_run turned (points w line)

  pub record Reading (c n : ℕ) (kept : code.Option (ℕ × ℕ)) (left : ℕ) : Type 0 where
    pub within : left ≤ length line
    pub left_whole : Multiple w left
    pub number : c ≡ (at + n) * w
    pub counted : standing (points w chain) turned (points w line) at ≡ n + common equal (drop (at + n) (points w chain)) (lay (last_kept kept) (rest_of w turned line left))
    pub remains : drop n run_laid ≡ lay (last_kept kept) (rest_of w turned line left)
    pub few : n + left ≤ length line

  module _ (g : PlaceGround w chain line) where
    pub reading_start : Reading (at * w) 0 None (length line)
    unfolding standing laid_run
    reading_start =
        let z : at + 0 ≡ at = omega arith in
        record {
          within = omega arith;
          left_whole = g.line_whole;
          number = ap (λ (i : ℕ). i * w) (sym z);
          counted = ap₂ (λ (i : ℕ) (l : List Point). common equal (drop i (points w chain)) (lay none l)) (sym z) (sym (rest_all w line g.two turned)) ∙ zeros _;
          remains = ap (lay none) (sym (rest_all w line g.two turned));
          few = omega arith;
        }
      where
        zeros : (n : ℕ) → n ≡ 0 + n
        zeros n = omega arith

    module _ (c n : ℕ) (kept : code.Option (ℕ × ℕ)) (left : ℕ) (r : Reading c n kept left) (h : 0 < left) where
      abbrev next_at : ℕ
      next_at = cond turned (left - w) (length line - w - (left - w))

      abbrev next_point : Point
      next_point = point_at w line next_at

      pub left_next : (w ≤ left) × Multiple w (left - w)
      left_next = multiple_less r.left_whole h

      pub next_inside : next_at + w ≤ length line
      next_inside = go turned
        where
          go : (b : Bool) → cond b (left - w) (length line - w - (left - w)) + w ≤ length line
          go true = omega (arith, left_next.0, r.within)
          go false = omega (arith, left_next.0, r.within)

      next_is : rest_of w turned line left ≡ next_point ∷ rest_of w turned line (left - w)
      next_is = rest_next w line g.two turned left r.left_whole h r.within

      -- the point as it is read
      module _ (x y : ℕ) (x_is : x ≡ get_or line next_at 0) (y_is : y ≡ get_or line (next_at + 1) 0) where
        same_x : next_point.x ≡ x
        same_x = at_x w g.two line next_at ∙ sym x_is

        same_y : next_point.y ≡ y
        same_y = at_y w g.two line next_at ∙ sym y_is

        same_point : point next_point.x next_point.y ≡ point x y
        same_point = ap₂ point same_x same_y

        met_is : met (last_kept kept) next_point ≡ met (last_kept kept) (point x y)
        met_is = met_last (last_kept kept) next_point ∙ ap (met (last_kept kept)) same_point

        pub reading_repeat : met (last_kept kept) (point x y) ≡ true → Reading c n kept (left - w)
        reading_repeat e =
            let f : lay (last_kept kept) (rest_of w turned line left) ≡ lay (last_kept kept) (rest_of w turned line (left - w)) =
            ap (lay (last_kept kept)) next_is ∙ lay_repeat (last_kept kept) next_point (rest_of w turned line (left - w)) (met_is ∙ e) in
            record {
              within = omega (arith, r.within);
              left_whole = left_next.1;
              number = r.number;
              counted = r.counted ∙ ap (λ (l : List Point). n + common equal (drop (at + n) (points w chain)) l) f;
              remains = r.remains ∙ f;
              few = omega (arith, r.few);
            }

        -- a point that is kept
        module _ (e : met (last_kept kept) (point x y) ≡ false) where
          kept_is : lay (last_kept kept) (rest_of w turned line left) ≡ next_point ∷ lay (last_kept (Some (x, y))) (rest_of w turned line (left - w))
          kept_is =
              ap (lay (last_kept kept)) next_is ∙ lay_keep (last_kept kept) next_point (rest_of w turned line (left - w)) (met_is ∙ e)
              ∙ ap {B = List Point} (λ (l : List Point). next_point ∷ l)
              (lay_last next_point (rest_of w turned line (left - w))
              ∙ ap (λ (o : Option Point). lay o (rest_of w turned line (left - w))) (ap (λ (p : Point). some p) same_point))

          at_number : (b : Bool) → number_stands chain c (point x y) ≡ b → number_stands chain ((at + n) * w) (point next_point.x next_point.y) ≡ b
          at_number b q = ap₂ (λ (i : ℕ) (p : Point). number_stands chain i p) (sym r.number) same_point ∙ q

          pub reading_next : number_stands chain c (point x y) ≡ true → Reading (c + w) (n + 1) (Some (x, y)) (left - w)
          reading_next q =
              let s = stands_there w chain g.two g.chain_whole (at + n) next_point (lay (last_kept (Some (x, y))) (rest_of w turned line (left - w))) (at_number true q) in
              let i : suc (at + n) ≡ at + (n + 1) = omega arith in
              record {
                within = omega (arith, r.within);
                left_whole = left_next.1;
                number = numbers n c r.number;
                counted = r.counted
                    ∙ ap (λ (l : List Point). n + common equal (drop (at + n) (points w chain)) l) kept_is
                    ∙ sums n _ _ s
                    ∙ ap (λ (j : ℕ). n + 1 + common equal (drop j (points w chain)) (lay (last_kept (Some (x, y))) (rest_of w turned line (left - w)))) i;
                remains = dropped n run_laid next_point _ (r.remains ∙ kept_is);
                few = omega (arith, r.few, g.two, left_next.0);
              }
            where
              numbers : (n c : ℕ) → c ≡ (at + n) * w → c + w ≡ (at + (n + 1)) * w
              numbers n c e = let f : (at + (n + 1)) * w ≡ (at + n) * w + w = omega arith in omega arith

              sums : (n a b : ℕ) → a ≡ suc b → n + a ≡ n + 1 + b
              sums n a b e = omega arith

              dropped : (n : ℕ) (l : List Point) (p : Point) (m : List Point) → drop n l ≡ p ∷ m → drop (n + 1) l ≡ m
              dropped n l p m e = sym (lib.Seq.drop-drop 1 n l) ∙ ap (drop 1) e

          -- a point that doesn't stand there is the first of them
          pub reading_stop : number_stands chain c (point x y) ≡ false → Reached w chain line turned at (record { points = n; next = Some (x, y) })
          unfolding equal
          reading_stop q =
              let s = stands_not w chain g.two g.chain_whole (at + n) next_point (lay (last_kept (Some (x, y))) (rest_of w turned line (left - w))) (at_number false q) in
              let d : drop n run_laid ≡ next_point ∷ lay (last_kept (Some (x, y))) (rest_of w turned line (left - w)) = r.remains ∙ kept_is in
              let f : get_or run_laid n (point 0 0) ≡ next_point = first_left n run_laid next_point _ d in
              record {
                count = sym (r.counted ∙ ap (λ (l : List Point). n + common equal (drop (at + n) (points w chain)) l) kept_is ∙ none_more n _ s);
                all = sym (ne_eqb n (length run_laid) (λ z. omega (arith, ap length d, length-drop n run_laid)));
                next = λ q z p. ap (equal p) f ∙ ap₂ (λ (a b : ℕ). equal p (point a b)) same_x same_y ∙ ap (λ (q : ℕ × ℕ). equal p (point q.0 q.1)) (some_is z);
              }
            where
              none_more : (n a : ℕ) → a ≡ 0 → n + a ≡ n
              none_more n a e = omega arith

              some_is : {p q : ℕ × ℕ} → Some p ≡ Some q → p ≡ q
              some_is e = cc

              first_left : (n : ℕ) (l : List Point) (p : Point) (m : List Point) → drop n l ≡ p ∷ m → get_or l n (point 0 0) ≡ p
              first_left n l p m e =
                  let z : n + 0 ≡ n = omega arith in
                  ap (λ (i : ℕ). get_or l i (point 0 0)) (sym z) ∙ sym (get_or-drop n l 0 (point 0 0)) ∙ ap (λ (k : List Point). get_or k 0 (point 0 0)) e

    -- none is left: all of them stand there
    pub reading_end : (c n : ℕ) (kept : code.Option (ℕ × ℕ)) (left : ℕ) → Reading c n kept left → left ≤ 0
        → Reached w chain line turned at (record { points = n; next = None })
    unfolding lay common
    reading_end c n kept left r h =
        let e : lay (last_kept kept) (rest_of w turned line left) ≡ [] = ap (lay (last_kept kept)) (rest_none w line g.two turned left h) ∙ nothing (last_kept kept) in
        let d : length (drop n run_laid) ≡ 0 = ap length (r.remains ∙ e) in
        let k : n ≡ length run_laid = omega (arith, d, length-drop n run_laid, r.counted, standing_right (points w chain) turned (points w line) at) in
        record {
          count = sym (r.counted ∙ ap (λ (l : List Point). n + common equal (drop (at + n) (points w chain)) l) e ∙ none_more n _ (common_none equal (drop (at + n) (points w chain))));
          all = sym (eq-eqb n (length run_laid) k);
          next = λ q z p. absurd (cc);
        }
      where
        nothing : (o : Option Point) → lay o [] ≡ []
        nothing none = refl
        nothing (some q) = refl

        none_more : (n a : ℕ) → a ≡ 0 → n + a ≡ n
        none_more n a e = omega arith
