-- Points as numbers, for every width. The first n points of a list (`reads`) are cut off one by one, so that each law is an induction on n, and none
-- asks that the list be as long as n points; `points` reads as many as there are, and its laws follow.
use Prim.Native.Nat.{ℕ, zero, suc, ◌+◌, ◌-◌, ◌*◌, ◌/◌, ◌≤◌, ◌<◌}
use mathlib.Core.Path.{◌≡◌, refl, sym, ap, ap₂, subst, ◌∙◌}
use mathlib.Core.List.{List, [], ◌∷◌, ◌++◌, reverse, append_assoc, append-nil, reverse-append}
use native.Mathlib.Omega.{arith}
use native.Mathlib.Decide.{dec_lt}
use native.Mathlib.Nat.{zero-add, zero-mul, suc-mul, not-suc-le-zero, le_of_suc-le-suc, div-eq_of_lt, add-div_left, mul-add-div_right, le-div_iff_mul-le, div-mul-le_self}
use lib.Arith.{digits_div}
use lib.ListN.{length, take, drop, get_or, replicate, length-append, length-drop, length-replicate, take-append-drop, drop_of_length-le, get_or-append}
use lib.Seq.{length-take-le, take_at, drop_at, drop-drop, take-append-le, drop-append-le, get_or-take, get_or-drop, take-length, take-add, drop-cons}
use Rattle.rules.specs.Plane.{Point, point, equal, point_of, numbers_of, reads, points, flat}
use Rattle.point_numbers.specs.Width.{point_at, Wide, AllWide, none_wide, more_wide, Multiple, Whole}

-- ---- one point

-- a point has w numbers
pub numbers_length : (w : ℕ) (p : Point) → length (numbers_of w p) ≡ w
unfolding numbers_of
numbers_length w p =
    length-take-le w (p.x ∷ p.y ∷ (p.extras ++ replicate w 0)) (omega (arith, length-append p.extras (replicate w 0), length-replicate {A = ℕ} w 0))

-- where it has as many extras as its width asks for, they are its numbers
pub numbers_wide : (w : ℕ) (p : Point) → Wide w p → numbers_of w p ≡ p.x ∷ p.y ∷ p.extras
unfolding numbers_of
numbers_wide w p h = take_at (p.x ∷ p.y ∷ p.extras) (replicate w 0) w (omega (arith, h))

-- numbers, read and written
pub numbers_back : (l : List ℕ) → 2 ≤ length l → numbers_of (length l) (point_of l) ≡ l
unfolding numbers_of
numbers_back [] h = absurd (not-suc-le-zero h)
numbers_back (a ∷ []) h = absurd (not-suc-le-zero (le_of_suc-le-suc h))
numbers_back (a ∷ b ∷ l) h = take_at (a ∷ b ∷ l) (replicate (length (a ∷ b ∷ l)) 0) (length (a ∷ b ∷ l)) refl

module _ (w : ℕ) (l : List ℕ) (two : 2 ≤ w) (h : w ≤ length l) where
  part_size : length (take w l) ≡ w
  part_size = length-take-le w l h

  pub part_back : numbers_of w (point_of (take w l)) ≡ take w l
  part_back = ap (λ (n : ℕ). numbers_of n (point_of (take w l))) (sym part_size) ∙ numbers_back (take w l) (omega (arith, part_size))

  pub part_wide : Wide w (point_of (take w l))
  part_wide = omega (arith, length-drop 2 (take w l), part_size)

-- its x and y where it is written, and where it is read
module _ (w : ℕ) (two : 2 ≤ w) where
  pub numbers_x : (p : Point) → get_or (numbers_of w p) 0 0 ≡ p.x
  unfolding numbers_of
  numbers_x p = get_or-take w (p.x ∷ p.y ∷ (p.extras ++ replicate w 0)) 0 0 (omega arith)

  pub numbers_y : (p : Point) → get_or (numbers_of w p) 1 0 ≡ p.y
  unfolding numbers_of
  numbers_y p = get_or-take w (p.x ∷ p.y ∷ (p.extras ++ replicate w 0)) 1 0 (omega arith)

  pub at_x : (l : List ℕ) (j : ℕ) → (point_at w l j).x ≡ get_or l j 0
  at_x l j =
      let e : j + 0 ≡ j = omega arith in
      get_or-take w (drop j l) 0 0 (omega arith) ∙ get_or-drop j l 0 0 ∙ ap (λ (i : ℕ). get_or l i 0) e

  pub at_y : (l : List ℕ) (j : ℕ) → (point_at w l j).y ≡ get_or l (j + 1) 0
  at_y l j = get_or-take w (drop j l) 1 0 (omega arith) ∙ get_or-drop j l 1 0

  -- x and y are all that equality looks at
  pub equal_at : (q : Point) (l : List ℕ) (j : ℕ) → equal q (point_at w l j) ≡ equal q (point (get_or l j 0) (get_or l (j + 1) 0))
  unfolding equal
  equal_at q l j = ap₂ (λ (a b : ℕ). equal q (point a b)) (at_x l j) (at_y l j)

-- one of no extras is its x and y
pub at_two : (l : List ℕ) (j : ℕ) → j + 2 ≤ length l → point_at 2 l j ≡ point (get_or l j 0) (get_or l (j + 1) 0)
at_two l j h =
    let two : 2 ≤ 2 = omega arith in
    let n : length (drop 2 (take 2 (drop j l))) ≡ 0 = omega (arith, length-drop 2 (take 2 (drop j l)), length-take-le 2 (drop j l) (omega (arith, length-drop j l))) in
    λ i. record { x = at_x 2 two l j i; y = at_y 2 two l j i; extras = empty (drop 2 (take 2 (drop j l))) n i }
  where
    empty : (t : List ℕ) → length t ≡ 0 → t ≡ []
    empty [] e = refl
    empty (a ∷ t) e = absurd (omega arith)

-- written and read
pub point_back : (w : ℕ) (p : Point) (l : List ℕ) → Wide w p → point_of (take w (numbers_of w p ++ l)) ≡ p
point_back w p l h = ap point_of (take_at (numbers_of w p) l w (numbers_length w p) ∙ numbers_wide w p h)

-- ---- points written

pub flat_append : (w : ℕ) (a b : List Point) → flat w (a ++ b) ≡ flat w a ++ flat w b
unfolding flat
flat_append w [] b = refl
flat_append w (p ∷ a) b = ap (λ (t : List ℕ). numbers_of w p ++ t) (flat_append w a b) ∙ sym (append_assoc (numbers_of w p) (flat w a) (flat w b))

pub flat_length : (w : ℕ) (a : List Point) → length (flat w a) ≡ length a * w
unfolding flat
flat_length w [] = sym (zero-mul w)
flat_length w (p ∷ a) =
    length-append (numbers_of w p) (flat w a) ∙ ap₂ ◌+◌ (numbers_length w p) (flat_length w a) ∙ omega (arith, suc-mul (length a) w)

-- the numbers of the points from the k-th on, and of the k-th
pub flat_drop : (w : ℕ) (l : List Point) (k : ℕ) → drop (k * w) (flat w l) ≡ flat w (drop k l)
unfolding flat
flat_drop w l zero = ap (λ (i : ℕ). drop i (flat w l)) (zero-mul w)
flat_drop w [] (suc k) = go (suc k * w)
  where
    go : (i : ℕ) → ◌≡◌ {A = List ℕ} (drop i []) []
    go zero = refl
    go (suc i) = refl
flat_drop w (p ∷ l) (suc k) =
    let e : suc k * w ≡ w + k * w = omega (arith, suc-mul k w) in
    ap (λ (i : ℕ). drop i (numbers_of w p ++ flat w l)) e
    ∙ sym (drop-drop (k * w) w (numbers_of w p ++ flat w l))
    ∙ ap (drop (k * w)) (drop_at (numbers_of w p) (flat w l) w (numbers_length w p))
    ∙ flat_drop w l k

-- the numbers of the k-th point
module _ (w : ℕ) (two : 2 ≤ w) (l : List Point) (k : ℕ) (d : Point) (h : k < length l) where
  flat_number : (a : ℕ) → a < w → get_or (flat w l) (k * w + a) 0 ≡ get_or (numbers_of w (get_or l k d)) a 0
  unfolding flat
  flat_number a b =
      let q = get_or l k d in
      let n : length (numbers_of w q) ≡ w = numbers_length w q in
      sym (get_or-drop (k * w) (flat w l) a 0)
      ∙ ap (λ (t : List ℕ). get_or t a 0) (flat_drop w l k ∙ ap (flat w) (drop-cons l k d h))
      ∙ get_or-append (numbers_of w q) (flat w (drop (suc k) l)) 0 a (omega arith)

  pub flat_x : get_or (flat w l) (k * w + 0) 0 ≡ (get_or l k d).x
  flat_x = flat_number 0 (omega arith) ∙ numbers_x w two (get_or l k d)

  pub flat_y : get_or (flat w l) (k * w + 1) 0 ≡ (get_or l k d).y
  flat_y = flat_number 1 (omega arith) ∙ numbers_y w two (get_or l k d)

-- ---- points read

pub reads_length : (w n : ℕ) (l : List ℕ) → length (reads w n l) ≡ n
unfolding reads
reads_length w zero l = refl
reads_length w (suc n) l = ap suc (reads_length w n (drop w l))

-- n points, and m behind them
pub reads_add : (w n m : ℕ) (l : List ℕ) → reads w (n + m) l ≡ reads w n l ++ reads w m (drop (n * w) l)
unfolding reads
reads_add w zero m l = rw (zero-add, zero-mul)
reads_add w (suc n) m l =
    let e : suc n + m ≡ suc (n + m) = omega arith in
    let f : w + n * w ≡ suc n * w = omega (arith, suc-mul n w) in
    ap (λ (k : ℕ). reads w k l) e
    ∙ ap {B = List Point} (λ (t : List Point). point_of (take w l) ∷ t)
    (reads_add w n m (drop w l) ∙ ap (λ (t : List ℕ). reads w n (drop w l) ++ reads w m t) (drop-drop (n * w) w l ∙ ap (λ (i : ℕ). drop i l) f))

-- one point more
pub reads_last : (w n : ℕ) (l : List ℕ) → reads w (suc n) l ≡ reads w n l ++ (point_at w l (n * w) ∷ [])
unfolding reads
reads_last w n l = let e : suc n ≡ n + 1 = omega arith in ap (λ (k : ℕ). reads w k l) e ∙ reads_add w n 1 l

pub reads_turned : (w n : ℕ) (l : List ℕ) → reverse (reads w (suc n) l) ≡ point_at w l (n * w) ∷ reverse (reads w n l)
reads_turned w n l = ap reverse (reads_last w n l) ∙ reverse-append (reads w n l) (point_at w l (n * w) ∷ [])

pub reads_at : (w n : ℕ) (l : List ℕ) (k : ℕ) (d : Point) → k < n → get_or (reads w n l) k d ≡ point_at w l (k * w)
unfolding reads
reads_at w zero l k d h = absurd (not-suc-le-zero h)
reads_at w (suc n) l zero d h = ap (λ (i : ℕ). point_at w l i) (sym (zero-mul w))
reads_at w (suc n) l (suc k) d h =
    let f : w + k * w ≡ suc k * w = omega (arith, suc-mul k w) in
    reads_at w n (drop w l) k d (le_of_suc-le-suc h) ∙ ap (λ (t : List ℕ). point_of (take w t)) (drop-drop (k * w) w l ∙ ap (λ (i : ℕ). drop i l) f)

pub reads_take : (w n : ℕ) (l : List ℕ) (k : ℕ) → k ≤ n → take k (reads w n l) ≡ reads w k l
unfolding reads
reads_take w n l zero h = refl
reads_take w zero l (suc k) h = absurd (not-suc-le-zero h)
reads_take w (suc n) l (suc k) h = ap {B = List Point} (λ (t : List Point). point_of (take w l) ∷ t) (reads_take w n (drop w l) k (le_of_suc-le-suc h))

-- the numbers behind n points are not looked at
pub reads_within : (w n : ℕ) (a b : List ℕ) → n * w ≤ length a → reads w n (a ++ b) ≡ reads w n a
unfolding reads
reads_within w zero a b h = refl
reads_within w (suc n) a b h =
    let i : w ≤ length a = omega (arith, suc-mul n w) in
    ap₂ {C = List Point} (λ (s : List ℕ) (t : List Point). point_of s ∷ t) (take-append-le w a b i)
    (ap (reads w n) (drop-append-le w a b i) ∙ reads_within w n (drop w a) b (omega (arith, suc-mul n w, length-drop w a)))

pub reads_front : (w n m : ℕ) (l : List ℕ) → n * w ≤ m → m ≤ length l → reads w n (take m l) ≡ reads w n l
reads_front w n m l h k =
    sym (reads_within w n (take m l) (drop m l) (omega (arith, length-take-le m l k))) ∙ ap (reads w n) (take-append-drop m l)

-- written again
pub reads_back : (w n : ℕ) (l : List ℕ) → 2 ≤ w → n * w ≤ length l → flat w (reads w n l) ≡ take (n * w) l
unfolding reads flat
reads_back w zero l two h = ap (λ (i : ℕ). take i l) (sym (zero-mul w))
reads_back w (suc n) l two h =
    let e : suc n * w ≡ w + n * w = omega (arith, suc-mul n w) in
    ap₂ (λ (s t : List ℕ). s ++ t) (part_back w l two (omega arith)) (reads_back w n (drop w l) two (omega (arith, length-drop w l)))
    ∙ sym (take-add w (n * w) l) ∙ ap (λ (i : ℕ). take i l) (sym e)

-- points read are wide, and wide points written are read again
pub reads_wide : (w n : ℕ) (l : List ℕ) → 2 ≤ w → n * w ≤ length l → AllWide w (reads w n l)
unfolding reads
reads_wide w zero l two h = none_wide
reads_wide w (suc n) l two h =
    more_wide (part_wide w l two (omega (arith, suc-mul n w))) (reads_wide w n (drop w l) two (omega (arith, suc-mul n w, length-drop w l)))

pub flat_back : (w : ℕ) (ps : List Point) (l : List ℕ) → AllWide w ps → reads w (length ps) (flat w ps ++ l) ≡ ps
unfolding reads flat
flat_back w [] l none_wide = refl
flat_back w (p ∷ ps) l (more_wide h a) =
    let e = append_assoc (numbers_of w p) (flat w ps) l in
    ap (reads w (suc (length ps))) e
    ∙ ap₂ {C = List Point} (λ (q : Point) (t : List Point). q ∷ t) (point_back w p (flat w ps ++ l) h)
    (ap (reads w (length ps)) (drop_at (numbers_of w p) (flat w ps ++ l) w (numbers_length w p)) ∙ flat_back w ps l a)

-- ---- as many points as there are

pub points_length : (w : ℕ) (l : List ℕ) → length (points w l) ≡ length l / w
unfolding points
points_length w l = reads_length w (length l / w) l

pub points_few : (w : ℕ) (l : List ℕ) → length l < w → points w l ≡ []
unfolding points reads
points_few w l h = ap (λ (n : ℕ). reads w n l) (div-eq_of_lt h)

pub points_exact : (w n : ℕ) (l : List ℕ) → 0 < w → length l ≡ n * w → points w l ≡ reads w n l
unfolding points
points_exact w n l o h =
    let e : length l ≡ n * w + 0 = omega arith in
    ap (λ (k : ℕ). reads w k l) (ap (λ (i : ℕ). i / w) e ∙ digits_div n o)

pub points_next : (w : ℕ) (l : List ℕ) → 0 < w → w ≤ length l → points w l ≡ point_of (take w l) ∷ points w (drop w l)
unfolding points reads
points_next w l o h =
    let e : length l ≡ w + (length l - w) = omega arith in
    let d : length l / w ≡ suc ((length l - w) / w) = ap (λ (i : ℕ). i / w) e ∙ add-div_left (length l - w) o ∙ omega arith in
    ap (λ (k : ℕ). reads w k l) d
    ∙ ap {B = List Point} (λ (i : ℕ). point_of (take w l) ∷ reads w (i / w) (drop w l)) (sym (length-drop w l))

-- the points from the i-th number on
pub points_from : (w : ℕ) (l : List ℕ) (i : ℕ) → 0 < w → i + w ≤ length l → points w (drop i l) ≡ point_at w l i ∷ points w (drop (i + w) l)
points_from w l i o h =
    points_next w (drop i l) o (omega (arith, length-drop i l))
    ∙ ap {B = List Point} (λ (t : List ℕ). point_at w l i ∷ points w t) (drop-drop w i l)

pub points_past : (w : ℕ) (l : List ℕ) (i : ℕ) → 0 < w → length l < i + w → points w (drop i l) ≡ []
points_past w l i o h = points_few w (drop i l) (omega (arith, length-drop i l))

pub points_append : (w n : ℕ) (a b : List ℕ) → 0 < w → length a ≡ n * w → points w (a ++ b) ≡ points w a ++ points w b
unfolding points
points_append w n a b o h =
    let e : length (a ++ b) ≡ n * w + length b = length-append a b ∙ omega arith in
    ap (λ (k : ℕ). reads w k (a ++ b)) (ap (λ (i : ℕ). i / w) e ∙ mul-add-div_right o n (length b))
    ∙ reads_add w n (length b / w) (a ++ b)
    ∙ ap₂ (λ (s t : List Point). s ++ t) (reads_within w n a b (omega arith) ∙ sym (points_exact w n a o h))
    (ap (reads w (length b / w)) (drop_at a b (n * w) h))

pub points_drop : (w : ℕ) (l : List ℕ) (k : ℕ) → 0 < w → points w (drop (k * w) l) ≡ drop k (points w l)
points_drop w l zero o = ap (λ (i : ℕ). points w (drop i l)) (zero-mul w)
points_drop w l (suc k) o =
    let e : suc k * w ≡ w + k * w = omega (arith, suc-mul k w) in
    elim (dec_lt (length l) w) [
      | yes s ↦
          ap (points w) (drop_of_length-le l {i = suc k * w} (omega arith)) ∙ points_few w [] o
          ∙ sym (ap (drop (suc k)) (points_few w l s))
      | no s ↦
          ap (λ (i : ℕ). points w (drop i l)) e ∙ ap (points w) (sym (drop-drop (k * w) w l))
          ∙ points_drop w (drop w l) k o
          ∙ sym (ap (drop (suc k)) (points_next w l o (omega arith)))
    ]

pub points_take : (w : ℕ) (l : List ℕ) (k : ℕ) → 0 < w → k * w ≤ length l → points w (take (k * w) l) ≡ take k (points w l)
unfolding points
points_take w l k o h =
    points_exact w k (take (k * w) l) o (length-take-le (k * w) l h)
    ∙ reads_front w k (k * w) l (omega arith) h
    ∙ sym (reads_take w (length l / w) l k ((le-div_iff_mul-le o).1 h))

pub points_at : (w : ℕ) (l : List ℕ) (k : ℕ) (d : Point) → k < length l / w → get_or (points w l) k d ≡ point_at w l (k * w)
unfolding points
points_at w l k d h = reads_at w (length l / w) l k d h

-- numbers read and written again, and points written and read again
pub points_back : (w : ℕ) (l : List ℕ) → 2 ≤ w → Whole w l → flat w (points w l) ≡ l
points_back w l two h =
    ap (flat w) (points_exact w h.number l (omega arith) h.long)
    ∙ reads_back w h.number l two (omega (arith, h.long))
    ∙ ap (λ (i : ℕ). take i l) (sym h.long) ∙ take-length l

pub points_flat : (w : ℕ) (ps : List Point) → 0 < w → AllWide w ps → points w (flat w ps) ≡ ps
points_flat w ps o h =
    points_exact w (length ps) (flat w ps) o (flat_length w ps)
    ∙ ap (reads w (length ps)) (sym (append-nil (flat w ps))) ∙ flat_back w ps [] h

pub points_wide : (w : ℕ) (l : List ℕ) → 2 ≤ w → AllWide w (points w l)
unfolding points
points_wide w l two = reads_wide w (length l / w) l two (div-mul-le_self (length l) w)

-- ---- from the last point on, where i numbers are left
front : (w : ℕ) (l : List ℕ) (i k : ℕ) → 0 < w → i ≡ k * w → i ≤ length l → points w (take i l) ≡ reads w k l
front w l i k o e b = points_exact w k (take i l) o (length-take-le i l b ∙ e) ∙ reads_front w k i l (omega arith) b

multiple_step : (w i k : ℕ) → i ≡ k * w → 0 < i → (w ≤ i) × (i - w ≡ (k - 1) * w) × (suc (k - 1) ≡ k)
multiple_step w i zero e p = absurd (omega (arith, zero-mul w))
multiple_step w i (suc k) e p = let f : suc k - 1 ≡ k = omega arith in rw f (omega (arith, suc-mul k w))

-- one point is w numbers
pub multiple_less : {w i : ℕ} → Multiple w i → 0 < i → (w ≤ i) × Multiple w (i - w)
multiple_less {w} {i} m p = let s = multiple_step w i m.number m.long p in (s.0, record { number = m.number - 1; long = s.1 })

pub multiple_next : {w n i : ℕ} → Multiple w (n - i) → i < n → (i + w ≤ n) × Multiple w (n - (i + w))
multiple_next {w} {n} {i} m h =
    let d : 0 < n - i = omega arith in
    let s = multiple_less m d in
    let e : n - i - w ≡ n - (i + w) = omega arith in
    (omega (arith, s.0), subst (Multiple w) e s.1)

module _ (w : ℕ) (l : List ℕ) (o : 0 < w) where
  pub turned_one : (i : ℕ) → Multiple w i → 0 < i → i ≤ length l → reverse (points w (take i l)) ≡ point_at w l (i - w) ∷ reverse (points w (take (i - w) l))
  turned_one i m p b =
      let k = m.number in
      let s = multiple_step w i k m.long p in
      ap reverse (front w l i k o m.long b)
      ∙ ap (λ (n : ℕ). reverse (reads w n l)) (sym s.2)
      ∙ reads_turned w (k - 1) l
      ∙ ap {B = List Point} (λ (n : ℕ). point_at w l n ∷ reverse (reads w (k - 1) l)) (sym s.1)
      ∙ ap {B = List Point} (λ (t : List Point). point_at w l (i - w) ∷ reverse t) (sym (front w l (i - w) (k - 1) o s.1 (omega arith)))

  pub turned_none : (i : ℕ) → i ≤ 0 → reverse (points w (take i l)) ≡ []
  turned_none i h = let e : i ≡ 0 = omega arith in ap (λ (n : ℕ). reverse (points w (take n l))) e ∙ ap reverse (points_few w [] o)

  pub turned_all : reverse (points w (take (length l) l)) ≡ reverse (points w l)
  turned_all = ap (λ (t : List ℕ). reverse (points w t)) (take-length l)
