-- The box around boxes: three are taken together in either order, one and itself are one, and so points may be taken in any parts that follow or overlap one
-- another. Of equal values the first is kept in every order, since parts are taken in their own.
use mathlib.Core.Path.{◌≡◌, refl, sym, ap, ap₂, ◌∙◌}
use mathlib.Core.Bool.{cond}
use mathlib.Core.List.{List, [], ◌∷◌, ◌++◌}
use lib.Ieee.{is_nan, of_bits}
use Rattle.rules.specs.declared.Box.{Box}
use Rattle.rules.specs.Plane.{Point, float}
use Rattle.rules.specs.Boxes.{lesser, greater, union, empty, spot, grown, box_of}
use Rattle.float_order.proofs.Order.{finite_num}
use Rattle.chain_laws.proofs.Counts.{nil, cons, each_append}
use Rattle.box_laws.specs.Sound.{BoxPlace, Places, BoxSound}
use Rattle.box_laws.proofs.Picks.{pick_number, pick_self, pick_assoc, below, above, below_order, above_order, under_top, over_bottom, top_last, bottom_last}

-- ---- boxes without a NaN

pub union_sound : {a b : Box} → BoxSound a → BoxSound b → BoxSound (union a b)
unfolding union lesser greater
union_sound {a} {b} p q = record {
  low_x = pick_number below a.least_x b.least_x p.low_x q.low_x;
  from_low_y = pick_number below a.least_y b.least_y p.from_low_y q.from_low_y;
  to_high_x = pick_number above a.greatest_x b.greatest_x p.to_high_x q.to_high_x;
  to_high_y = pick_number above a.greatest_y b.greatest_y p.to_high_y q.to_high_y;
}

pub spot_sound : {p : Point} → BoxPlace p → BoxSound (spot p)
spot_sound {p} h =
    let nx = finite_num (float p.x) h.across in
    let ny = finite_num (float p.y) h.up in
    record { low_x = nx; from_low_y = ny; to_high_x = nx; to_high_y = ny }

pub empty_sound : BoxSound empty
unfolding is_nan of_bits
empty_sound = record { low_x = tt; from_low_y = tt; to_high_x = tt; to_high_y = tt }

grown_sound : (b : Box) (l : List Point) → BoxSound b → Places l → BoxSound (grown b l)
unfolding grown
grown_sound b [] s nil = s
grown_sound b (p ∷ l) s (cons h t) = grown_sound (union b (spot p)) l (union_sound s (spot_sound h)) t

-- the box of places, or of no points
pub box_sound : (l : List Point) → Places l → BoxSound (box_of l)
unfolding box_of
box_sound l t = grown_sound empty l empty_sound t

-- ---- the box around boxes

pub union_assoc : {a b c : Box} → BoxSound a → BoxSound b → BoxSound c → union a (union b c) ≡ union (union a b) c
unfolding union lesser greater
union_assoc {a} {b} {c} p q r = λ i. record {
  least_x = pick_assoc below below_order a.least_x b.least_x c.least_x p.low_x q.low_x r.low_x i;
  least_y = pick_assoc below below_order a.least_y b.least_y c.least_y p.from_low_y q.from_low_y r.from_low_y i;
  greatest_x = pick_assoc above above_order a.greatest_x b.greatest_x c.greatest_x p.to_high_x q.to_high_x r.to_high_x i;
  greatest_y = pick_assoc above above_order a.greatest_y b.greatest_y c.greatest_y p.to_high_y q.to_high_y r.to_high_y i;
}

pub union_self : (a : Box) → union a a ≡ a
unfolding union lesser greater
union_self a = λ i. record {
  least_x = pick_self below a.least_x i;
  least_y = pick_self below a.least_y i;
  greatest_x = pick_self above a.greatest_x i;
  greatest_y = pick_self above a.greatest_y i;
}

-- no points behind a box
pub union_empty : (a : Box) → union a empty ≡ a
unfolding union lesser greater
union_empty a = λ i. record {
  least_x = cond (top_last a.least_x i) 0x7ff0_0000_0000_0000 a.least_x;
  least_y = cond (top_last a.least_y i) 0x7ff0_0000_0000_0000 a.least_y;
  greatest_x = cond (bottom_last a.greatest_x i) 0xfff0_0000_0000_0000 a.greatest_x;
  greatest_y = cond (bottom_last a.greatest_y i) 0xfff0_0000_0000_0000 a.greatest_y;
}

-- the first point is a box of its own
pub empty_union : {p : Point} → BoxPlace p → union empty (spot p) ≡ spot p
unfolding union lesser greater
empty_union {p} h = λ i. record {
  least_x = cond (under_top p.x h.across i) p.x 0x7ff0_0000_0000_0000;
  least_y = cond (under_top p.y h.up i) p.y 0x7ff0_0000_0000_0000;
  greatest_x = cond (over_bottom p.x h.across i) p.x 0xfff0_0000_0000_0000;
  greatest_y = cond (over_bottom p.y h.up i) p.y 0xfff0_0000_0000_0000;
}

-- ---- points in parts

pub box_first : (p : Point) (l : List Point) → BoxPlace p → box_of (p ∷ l) ≡ grown (spot p) l
unfolding box_of grown
box_first p l h = ap (λ (b : Box). grown b l) (empty_union h)

-- a box grown by points is the box around it and theirs
pub grown_is : (b : Box) (l : List Point) → BoxSound b → Places l → grown b l ≡ union b (box_of l)
unfolding grown box_of
grown_is b [] s nil = sym (union_empty b)
grown_is b (p ∷ l) s (cons h t) =
    grown_is (union b (spot p)) l (union_sound s (spot_sound h)) t
    ∙ sym (union_assoc s (spot_sound h) (box_sound l t))
    ∙ ap (union b) (sym (grown_is (spot p) l (spot_sound h) t) ∙ sym (box_first p l h))

grown_append : (b : Box) (l m : List Point) → grown b (l ++ m) ≡ grown (grown b l) m
unfolding grown
grown_append b [] m = refl
grown_append b (p ∷ l) m = grown_append (union b (spot p)) l m

-- one part behind another
pub box_append : (l m : List Point) → Places l → Places m → box_of (l ++ m) ≡ union (box_of l) (box_of m)
unfolding box_of
box_append l m s t = grown_append empty l m ∙ grown_is (grown empty l) m (box_sound l s) t

pub box_one : (p : Point) → BoxPlace p → box_of (p ∷ []) ≡ spot p
unfolding grown
box_one p h = box_first p [] h

-- two parts that overlap
pub box_overlap : (a b c : List Point) → Places a → Places b → Places c → union (box_of (a ++ b)) (box_of (b ++ c)) ≡ box_of (a ++ (b ++ c))
box_overlap a b c s t u =
    let A = box_sound a s in
    let B = box_sound b t in
    let C = box_sound c u in
    ap₂ union (box_append a b s t) (box_append b c t u)
    ∙ sym (union_assoc A B (union_sound B C))
    ∙ ap (union (box_of a)) (union_assoc B B C ∙ ap (λ (x : Box). union x (box_of c)) (union_self (box_of b)) ∙ sym (box_append b c t u))
    ∙ sym (box_append a (b ++ c) s (each_append t u))
