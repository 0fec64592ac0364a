-- Laws of runs, for every width: points are laid one by one, and a run after a run is one run. `lay` looks at x and y of the last point laid, and so
-- what stands in a slice tells it all that it asks.
use Prim.Native.Nat.{ℕ, zero, suc, ◌+◌, ◌-◌, ◌*◌, ◌/◌, ◌%◌, ◌^◌, ◌≤◌, ◌<◌}
use mathlib.Core.Path.{◌≡◌, refl, sym, ap, ap₂, ◌∙◌, subst}
use mathlib.Core.Bool.{Bool, true, false}
use mathlib.Core.List.{List, [], ◌∷◌, ◌++◌, reverse, append_assoc, append-nil, reverse-append}
use mathlib.Core.Option.{Option, none, some}
use native.Mathlib.Omega.{arith}
use native.Mathlib.Nat.{suc-mul, not-suc-le-zero}
use native.Mathlib.Decide.{dec_lt}
use lib.ListN.{length, take, drop, get_or, set, length-append, length-drop, length-take, take-append-drop, get_or-append}
use lib.Seq.{length-take-le, get_or-take, get_or-append-add, take_all, take-suc}
use borrow.Author.Tests.{le-leb, lt-leb, eqb-true, eqb-false}
use lib.Dec.{eqb}
use Rattle.float_bits.proofs.Equal.{apart}
use Rattle.rules.specs.Plane.{Point, point, points, numbers_of, flat, equal}
use Rattle.rules.specs.Chaining.{lay}
use Rattle.point_numbers.specs.Width.{point_at}
use Rattle.point_numbers.proofs.Points.{numbers_length, numbers_x, numbers_y, part_back, at_x, equal_at, at_two, points_length, points_from, points_at}
use Rattle.point_slices.specs.Holds.{Holds, HoldsFrom}
use Rattle.point_slices.specs.Run.{last_of, laid, Near, Pushed}
use Rattle.point_slices.proofs.Laws.{holds_start, holds_then, holds_take, two_put}

-- ---- one point

-- there is a last point, and p is equal to it
abbrev pub meets : Option Point → Point → Bool
meets none p = false
meets (some q) p = equal q p

lay_met : (o : Option Point) (p : Point) (l : List Point) → meets o p ≡ true → lay o (p ∷ l) ≡ lay o l
unfolding lay
lay_met none p l h = let z : ◌≡◌ {A = ℕ} 0 1 = cc in absurd (omega arith)
lay_met (some q) p l h = rw (h, lay)

lay_new : (o : Option Point) (p : Point) (l : List Point) → meets o p ≡ false → lay o (p ∷ l) ≡ p ∷ lay (some p) l
unfolding lay
lay_new none p l h = refl
lay_new (some q) p l h = rw (h, lay)

-- the extras of the last point are not looked at
equal_plain : (q p : Point) → equal (point q.x q.y) p ≡ equal q p
unfolding equal
equal_plain q p = refl

lay_plain : (q : Point) (l : List Point) → lay (some q) l ≡ lay (some (point q.x q.y)) l
unfolding lay
lay_plain q [] = refl
lay_plain q (p ∷ l) = go (equal q p) refl (lay_plain q l)
  where
    go : (t : Bool) → equal q p ≡ t → lay (some q) l ≡ lay (some (point q.x q.y)) l → lay (some q) (p ∷ l) ≡ lay (some (point q.x q.y)) (p ∷ l)
    go true h r = lay_met (some q) p l h ∙ r ∙ sym (lay_met (some (point q.x q.y)) p l (equal_plain q p ∙ h))
    go false h r = lay_new (some q) p l h ∙ sym (lay_new (some (point q.x q.y)) p l (equal_plain q p ∙ h))

last_long : (w : ℕ) (out : List ℕ) → w ≤ length out → last_of w out ≡ some (point (get_or out (length out - w) 0) (get_or out (length out - w + 1) 0))
unfolding last_of
last_long w out h = rw (le-leb w (length out) h, last_of)

last_short : (w : ℕ) (out : List ℕ) → length out < w → last_of w out ≡ none
unfolding last_of
last_short w out h = rw (lt-leb w (length out) h, last_of)

pub laid_none : (w : ℕ) (out : List ℕ) → laid w out [] ≡ out
unfolding laid lay flat
laid_none w out = append-nil out

laid_met : (w : ℕ) (out : List ℕ) (p : Point) (l : List Point) → meets (last_of w out) p ≡ true → laid w out (p ∷ l) ≡ laid w out l
unfolding laid
laid_met w out p l h = ap (λ (t : List Point). out ++ flat w t) (lay_met (last_of w out) p l h)

laid_one_met : (w : ℕ) (out : List ℕ) (p : Point) → meets (last_of w out) p ≡ true → laid w out (p ∷ []) ≡ out
laid_one_met w out p h = laid_met w out p [] h ∙ laid_none w out

-- what is laid from the start is the book's
pub laid_start : (w : ℕ) (l : List Point) → 0 < w → laid w [] l ≡ flat w (lay none l)
unfolding laid
laid_start w l o = ap (λ (q : Option Point). flat w (lay q l)) (last_short w [] o)

module _ (w : ℕ) (two : 2 ≤ w) where
  last_added : (out : List ℕ) (p : Point) → last_of w (out ++ numbers_of w p) ≡ some (point p.x p.y)
  last_added out p =
      let n : length (out ++ numbers_of w p) ≡ length out + w = length-append out (numbers_of w p) ∙ ap (λ (i : ℕ). length out + i) (numbers_length w p) in
      let a : length (out ++ numbers_of w p) - w ≡ length out + 0 = omega arith in
      let b : length (out ++ numbers_of w p) - w + 1 ≡ length out + 1 = omega arith in
      last_long w (out ++ numbers_of w p) (omega arith)
      ∙ ap₂ (λ (i j : ℕ). some (point (get_or (out ++ numbers_of w p) i 0) (get_or (out ++ numbers_of w p) j 0))) a b
      ∙ ap₂ (λ (i j : ℕ). some (point i j)) (get_or-append-add out (numbers_of w p) 0 0 ∙ numbers_x w two p) (get_or-append-add out (numbers_of w p) 1 0 ∙ numbers_y w two p)

  laid_new : (out : List ℕ) (p : Point) (l : List Point) → meets (last_of w out) p ≡ false → laid w out (p ∷ l) ≡ laid w (out ++ numbers_of w p) l
  unfolding laid flat
  laid_new out p l h =
      ap (λ (t : List Point). out ++ flat w t) (lay_new (last_of w out) p l h)
      ∙ sym (append_assoc out (numbers_of w p) (flat w (lay (some p) l)))
      ∙ ap (λ (t : List Point). (out ++ numbers_of w p) ++ flat w t) (lay_plain p l ∙ ap (λ (o : Option Point). lay o l) (sym (last_added out p)))

  laid_one_new : (out : List ℕ) (p : Point) → meets (last_of w out) p ≡ false → laid w out (p ∷ []) ≡ out ++ numbers_of w p
  laid_one_new out p h = laid_new out p [] h ∙ laid_none w (out ++ numbers_of w p)

  pub laid_cons : (out : List ℕ) (p : Point) (l : List Point) → laid w out (p ∷ l) ≡ laid w (laid w out (p ∷ [])) l
  laid_cons out p l = go (meets (last_of w out) p) refl
    where
      go : (t : Bool) → meets (last_of w out) p ≡ t → laid w out (p ∷ l) ≡ laid w (laid w out (p ∷ [])) l
      go true h = laid_met w out p l h ∙ ap (λ (o : List ℕ). laid w o l) (sym (laid_one_met w out p h))
      go false h = laid_new out p l h ∙ ap (λ (o : List ℕ). laid w o l) (sym (laid_one_new out p h))

  -- a run after a run is one run
  pub laid_append : (out : List ℕ) (a b : List Point) → laid w out (a ++ b) ≡ laid w (laid w out a) b
  laid_append out [] b = ap (λ (o : List ℕ). laid w o b) (sym (laid_none w out))
  laid_append out (p ∷ a) b =
      laid_cons out p (a ++ b) ∙ laid_append (laid w out (p ∷ [])) a b ∙ ap (λ (o : List ℕ). laid w o b) (sym (laid_cons out p a))

  one_length : (out : List ℕ) (p : Point) → (length out ≤ length (laid w out (p ∷ []))) × (length (laid w out (p ∷ [])) ≤ length out + w)
  one_length out p = go (meets (last_of w out) p) refl
    where
      go : (t : Bool) → meets (last_of w out) p ≡ t → (length out ≤ length (laid w out (p ∷ []))) × (length (laid w out (p ∷ [])) ≤ length out + w)
      go true h = rw (laid_one_met w out p h) (omega arith)
      go false h = rw (laid_one_new out p h) (omega (arith, length-append out (numbers_of w p), numbers_length w p))

  -- no more than w numbers for each point
  pub laid_length : (out : List ℕ) (l : List Point) → (length out ≤ length (laid w out l)) × (length (laid w out l) ≤ length out + length l * w)
  laid_length out [] = rw (laid_none w out) (omega arith)
  laid_length out (p ∷ l) = rw (laid_cons out p l) (omega (arith, laid_length (laid w out (p ∷ [])) l, one_length out p, suc-mul (length l) w))

  -- ---- a point behind the first h numbers of a slice

  pub last_of_lem : (l : List ℕ) (h : ℕ) (p : Point) → h ≤ length l → w ≤ h → meets (last_of w (take h l)) p ≡ equal (point (get_or l (h - w) 0) (get_or l (h - w + 1) 0)) p
  last_of_lem l h p k o =
      let n : length (take h l) ≡ h = length-take-le h l k in
      let a : h - w < h = omega arith in
      let b : h - w + 1 < h = omega arith in
      ap (λ (q : Option Point). meets q p) (last_long w (take h l) (omega arith))
      ∙ ap (λ (i : ℕ). equal (point (get_or (take h l) (i - w) 0) (get_or (take h l) (i - w + 1) 0)) p) n
      ∙ ap₂ (λ (x y : ℕ). equal (point x y) p) (get_or-take h l (h - w) 0 a) (get_or-take h l (h - w + 1) 0 b)

  pub last_none : (l : List ℕ) (h : ℕ) (p : Point) → h < w → meets (last_of w (take h l)) p ≡ false
  last_none l h p k = ap (λ (q : Option Point). meets q p) (last_short w (take h l) (omega (arith, length-take h l)))

  module _ (l : List ℕ) (h : ℕ) (p : Point) where
    pub kept : h ≤ length l → meets (last_of w (take h l)) p ≡ true → Holds l l h (laid w (take h l) (p ∷ []))
    kept k e = rw (laid_one_met w (take h l) p e) (holds_start l h k)

    pub more : {l' : List ℕ} → h ≤ length l → HoldsFrom l' l h w (numbers_of w p) → meets (last_of w (take h l)) p ≡ false
        → Holds l' l (h + w) (laid w (take h l) (p ∷ []))
    more {l'} k s e =
        rw (laid_one_new (take h l) p e)
        (record {
          count = sym (length-append (take h l) (numbers_of w p) ∙ ap₂ ◌+◌ (length-take-le h l k) (sym s.count));
          list = s.list ∙ sym (append_assoc (take h l) (numbers_of w p) (drop (h + w) l));
        })

  -- the point at j of a source
  module _ (l : List ℕ) (h : ℕ) (src : List ℕ) (j : ℕ) where
    pub last_at : h ≤ length l → w ≤ h → meets (last_of w (take h l)) (point_at w src j) ≡ equal (point (get_or l (h - w) 0) (get_or l (h - w + 1) 0)) (point (get_or src j 0) (get_or src (j + 1) 0))
    last_at k o = last_of_lem l h (point_at w src j) k o ∙ equal_at w two (point (get_or l (h - w) 0) (get_or l (h - w + 1) 0)) src j

    pub more_at : {l' : List ℕ} → h ≤ length l → j + w ≤ length src → HoldsFrom l' l h w (take w (drop j src)) → meets (last_of w (take h l)) (point_at w src j) ≡ false
        → Holds l' l (h + w) (laid w (take h l) (point_at w src j ∷ []))
    more_at {l'} k c s e =
        more l h (point_at w src j) k (subst (HoldsFrom l' l h w) (sym (part_back w (drop j src) two (omega (arith, length-drop j src)))) s) e

-- ---- the x of the last point, but for its sign

equal_apart : (q p : Point) → q.x < 2 ^ 64 → p.x < 2 ^ 64 → (q.x % 2 ^ 63 ≡ p.x % 2 ^ 63 → ⊥) → equal q p ≡ false
unfolding equal
equal_apart q p h k o = rw (apart q.x p.x h k o)

-- points that are equal have one x, but for its sign
equal_near : (q p : Point) → q.x < 2 ^ 64 → p.x < 2 ^ 64 → equal q p ≡ true → q.x % 2 ^ 63 ≡ p.x % 2 ^ 63
equal_near q p h k e = go (eqb (q.x % 2 ^ 63) (p.x % 2 ^ 63)) refl
  where
    go : (t : Bool) → eqb (q.x % 2 ^ 63) (p.x % 2 ^ 63) ≡ t → q.x % 2 ^ 63 ≡ p.x % 2 ^ 63
    go true s = eqb-true _ _ s
    go false s = let f = equal_apart q p h k (eqb-false _ _ s) in let z : ◌≡◌ {A = ℕ} 0 1 = cc in absurd (omega arith)

module _ (w : ℕ) (two : 2 ≤ w) (l : List ℕ) (h : ℕ) (p : Point) (room : h ≤ length l) (fits : p.x < 2 ^ 64) where
  abbrev last_there : Point
  last_there = point (get_or l (h - w) 0) (get_or l (h - w + 1) 0)

  -- a point with another x is not equal to the last one
  pub meets_apart : (last : ℕ) → Near w l h last → (p.x % 2 ^ 63 ≡ last % 2 ^ 63 → ⊥) → meets (last_of w (take h l)) p ≡ false
  meets_apart last n o =
      elim (dec_lt h w) [
        | yes s ↦ last_none w two l h p s
        | no s ↦
            let c : w ≤ h = omega arith in
            let e = n c in
            last_of_lem w two l h p room c ∙ equal_apart last_there p e.0 fits (λ z. o (sym z ∙ e.1))
      ]

  -- behind one point more: `push` is what laying it says of it
  module _ (l' : List ℕ) (r : ℕ) (push : Holds l' l r (laid w (take h l) (p ∷ []))) where
    pub near_new : meets (last_of w (take h l)) p ≡ false → Near w l' r p.x
    near_new e c =
        let q : Holds l' l r (take h l ++ numbers_of w p) = rw (laid_one_new w two (take h l) p e) at push in
        let n : length (take h l) ≡ h = length-take-le h l room in
        let d : r - w ≡ length (take h l) + 0 = omega (arith, q.count, length-append (take h l) (numbers_of w p), numbers_length w p) in
        let f : length (numbers_of w p) ≡ w = numbers_length w p in
        let s : get_or l' (r - w) 0 ≡ p.x =
        ap₂ (λ (t : List ℕ) (i : ℕ). get_or t i 0) (q.list ∙ append_assoc (take h l) (numbers_of w p) (drop r l)) d
        ∙ get_or-append-add (take h l) (numbers_of w p ++ drop r l) 0 0
        ∙ get_or-append (numbers_of w p) (drop r l) 0 0 (omega arith)
        ∙ numbers_x w two p in
        (omega arith, ap (λ (t : ℕ). t % 2 ^ 63) s)

    near_met : (w ≤ h → get_or l (h - w) 0 < 2 ^ 64) → meets (last_of w (take h l)) p ≡ true → Near w l' r p.x
    near_met b e c =
        let q : Holds l' l r (take h l) = rw (laid_one_met w (take h l) p e) at push in
        let d : r ≡ h = q.count ∙ length-take-le h l room in
        let same : l' ≡ l = q.list ∙ ap (λ (i : ℕ). take h l ++ drop i l) d ∙ take-append-drop h l in
        let v : get_or l' (r - w) 0 ≡ get_or l (h - w) 0 = ap₂ (λ (t : List ℕ) (i : ℕ). get_or t (i - w) 0) same d in
        let c' : w ≤ h = omega arith in
        let bound = b c' in
        let s = equal_near last_there p bound fits (sym (last_of_lem w two l h p room c') ∙ e) in
        (omega arith, ap (λ (t : ℕ). t % 2 ^ 63) v ∙ s)

    pub near_one : (w ≤ h → get_or l (h - w) 0 < 2 ^ 64) → Near w l' r p.x
    near_one b = go (meets (last_of w (take h l)) p) refl
      where
        go : (t : Bool) → meets (last_of w (take h l)) p ≡ t → Near w l' r p.x
        go true e = near_met b e
        go false e = near_new e

-- three numbers are two and more
pub high_two : {w : ℕ} → 3 ≤ w → 2 ≤ w
high_two h = omega arith

pub high_one : {w : ℕ} → 3 ≤ w → 0 < w
high_one h = omega arith

-- the point at j of a source: kept out, or written behind the first h numbers
module _ (w : ℕ) (two : 2 ≤ w) (l : List ℕ) (h : ℕ) (src : List ℕ) (j : ℕ) (room : h ≤ length l) (fits : get_or src j 0 < 2 ^ 64) where
  fits_at_lem : (point_at w src j).x < 2 ^ 64
  fits_at_lem = subst (λ (v : ℕ). v < 2 ^ 64) (sym (at_x w two src j)) fits

  pub apart_at : (last : ℕ) → Near w l h last → (get_or src j 0 % 2 ^ 63 ≡ last % 2 ^ 63 → ⊥) → meets (last_of w (take h l)) (point_at w src j) ≡ false
  apart_at last n o =
      meets_apart w two l h (point_at w src j) room fits_at_lem last n (λ z. o (ap (λ (t : ℕ). t % 2 ^ 63) (sym (at_x w two src j)) ∙ z))

  pub pushed_met : w ≤ h → get_or l (h - w) 0 < 2 ^ 64
      → equal (point (get_or l (h - w) 0) (get_or l (h - w + 1) 0)) (point (get_or src j 0) (get_or src (j + 1) 0)) ≡ true → Pushed w l l h h (point_at w src j)
  pushed_met o b e =
      let push = kept w two l h (point_at w src j) room (last_at w two l h src j room o ∙ e) in
      record { holds = push; there = o; near = near_one w two l h (point_at w src j) room fits_at_lem l h push (λ _. b) }

  pub pushed_new : {l' : List ℕ} → j + w ≤ length src → HoldsFrom l' l h w (take w (drop j src)) → meets (last_of w (take h l)) (point_at w src j) ≡ false
      → Pushed w l' l h (h + w) (point_at w src j)
  pushed_new {l'} k s e =
      let push = more_at w two l h src j room k s e in
      record { holds = push; there = omega arith; near = near_new w two l h (point_at w src j) room fits_at_lem l' (h + w) push e }

pub near_at : {w : ℕ} (two : 2 ≤ w) {l' l : List ℕ} {h r : ℕ} (src : List ℕ) (j : ℕ) → Pushed w l' l h r (point_at w src j) → Near w l' r (get_or src j 0)
near_at {w} two {l'} {l} {h} {r} src j push = subst (Near w l' r) (at_x w two src j) push.near

-- ---- on the way: h numbers of a slice, which held l₀ and holds l, are written, and the points that are left take them to the goal

pub record Way (w : ℕ) (goal l₀ : List ℕ) (left : List Point) (l : List ℕ) (h : ℕ) : Type 0 where
  pub out : List ℕ
  pub holds : Holds l l₀ h out
  pub goes : laid w out left ≡ goal

pub way_start : (w : ℕ) (l : List ℕ) (h : ℕ) (left : List Point) → h ≤ length l → Way w (laid w (take h l) left) l left l h
way_start w l h left k = record { out = take h l; holds = holds_start l h k; goes = refl }

pub way_done : {w : ℕ} {goal l₀ l : List ℕ} {h : ℕ} → Way w goal l₀ [] l h → Holds l l₀ h goal
way_done {w} {goal} {l₀} {l} {h} m = subst (λ (o : List ℕ). Holds l l₀ h o) (sym (laid_none w m.out) ∙ m.goes) m.holds

module _ {w : ℕ} (two : 2 ≤ w) where
  pub way_step : {goal l₀ l l' : List ℕ} {left : List Point} {h r : ℕ} {p : Point} → Way w goal l₀ (p ∷ left) l h
      → Holds l' l r (laid w (take h l) (p ∷ [])) → Way w goal l₀ left l' r × ((h ≤ r) × (r ≤ h + w))
  way_step {goal} {l₀} {l} {l'} {left} {h} {r} {p} m s =
      let s' : Holds l' l r (laid w m.out (p ∷ [])) = rw (holds_take m.holds) at s in
      let b : (h ≤ r) × (r ≤ h + w) = omega (arith, s'.count, m.holds.count, one_length w two m.out p) in (
        record {
          out = laid w m.out (p ∷ []);
          holds = holds_then m.holds s' b.0;
          goes = sym (laid_cons w two m.out p left) ∙ m.goes;
        },
        b,
      )

  -- one point laid, and then the others
  module _ {l₁ l : List ℕ} (h r : ℕ) (p : Point) (room : h ≤ length l) (push : Holds l₁ l r (laid w (take h l) (p ∷ []))) where
    pub push_length : (h ≤ r) × (r ≤ h + w)
    push_length = omega (arith, push.count, one_length w two (take h l) p, length-take-le h l room)

    pub push_then : {l₂ : List ℕ} {k : ℕ} (left : List Point) → Holds l₂ l₁ k (laid w (take r l₁) left) → Holds l₂ l k (laid w (take h l) (p ∷ left))
    push_then {l₂} {k} left b =
        let more' : Holds l₂ l₁ k (laid w (laid w (take h l) (p ∷ [])) left) = rw (holds_take push) at b in
        subst (λ (o : List ℕ). Holds l₂ l k o) (sym (laid_cons w two (take h l) p left))
        (holds_then push more' (omega (arith, push.count, more'.count, laid_length w two (laid w (take h l) (p ∷ [])) left)))

-- ---- points of no extras, which have loops of their own

pub two_two : 2 ≤ 2
two_two = omega arith

-- two stores
pub more_two : (l : List ℕ) (h x y : ℕ) → h + 2 ≤ length l → meets (last_of 2 (take h l)) (point x y) ≡ false
    → Holds (set (set l h x) (h + 1) y) l (h + 2) (laid 2 (take h l) (point x y ∷ []))
unfolding numbers_of
more_two l h x y k e = more 2 two_two l h (point x y) (omega arith) (two_put l h x y k) e

-- the y of the last point
pub last_two : (l : List ℕ) (h : ℕ) (p : Point) → h ≤ length l → 2 ≤ h → meets (last_of 2 (take h l)) p ≡ equal (point (get_or l (h - 2) 0) (get_or l (h - 1) 0)) p
last_two l h p k o = let e : h - 2 + 1 ≡ h - 1 = omega arith in last_of_lem 2 two_two l h p k o ∙ ap (λ (i : ℕ). equal (point (get_or l (h - 2) 0) (get_or l i 0)) p) e

pub points_two : (l : List ℕ) (i : ℕ) → i + 1 < length l → points 2 (drop i l) ≡ point (get_or l i 0) (get_or l (i + 1) 0) ∷ points 2 (drop (i + 2) l)
points_two l i h =
    points_from 2 l i (omega arith) (omega arith) ∙ ap {B = List Point} (λ (p : Point). p ∷ points 2 (drop (i + 2) l)) (at_two l i (omega arith))

pub back_all : (l : List ℕ) → reverse (take (length l / 2) (points 2 l)) ≡ reverse (points 2 l)
back_all l = ap reverse (take_all (length l / 2) (points 2 l) (omega (arith, points_length 2 l)))

pub back_one : (l : List ℕ) (k : ℕ) → 0 < k → k ≤ length l / 2
    → reverse (take k (points 2 l)) ≡ point (get_or l (k - 1 + (k - 1)) 0) (get_or l (k - 1 + (k - 1) + 1) 0) ∷ reverse (take (k - 1) (points 2 l))
back_one l zero h b = absurd (not-suc-le-zero h)
back_one l (suc k) h b =
    let e : suc k - 1 ≡ k = omega arith in
    let d : k * 2 ≡ k + k = omega arith in
    let i : k < length (points 2 l) = omega (arith, points_length 2 l) in
    rw e
    (ap reverse (take-suc (points 2 l) k (point 0 0) i)
    ∙ reverse-append (take k (points 2 l)) (get_or (points 2 l) k (point 0 0) ∷ [])
    ∙ ap (λ (p : Point). p ∷ reverse (take k (points 2 l)))
    (points_at 2 l k (point 0 0) (omega arith) ∙ ap (λ (n : ℕ). point_at 2 l n) d ∙ at_two l (k + k) (omega arith)))

pub back_none : (l : List ℕ) (k : ℕ) → k ≤ 0 → reverse (take k (points 2 l)) ≡ []
back_none l zero h = refl
back_none l (suc k) h = absurd (not-suc-le-zero h)
