-- The earlier of two: where a repeated x, y is dropped, the earlier point is the one that stays, whole.
-- A point is compared with the last one written. If the earlier of two equal ones is written, the later is dropped; if it was itself dropped, it equals
-- an earlier one, which the later then equals too.
use mathlib.Core.Path.{◌≡◌, refl, sym, ap, subst, ◌∙◌}
use mathlib.Core.Bool.{Bool, true, false, and-eq-true_iff}
use mathlib.Core.List.{List, [], ◌∷◌, ◌++◌}
use mathlib.Core.Option.{Option, none, some}
use lib.Dec.{T}
use lib.Ieee.{Float, eq, le}
use Rattle.rules.specs.Plane.{Point, float, equal}
use Rattle.rules.specs.Chaining.{lay}
use Rattle.float_order.proofs.Order.{bool_ext, eq_is, trans, antisymm}

eq_trans : (x y z : Float) → eq x y ≡ true → eq y z ≡ true → eq x z ≡ true
eq_trans x y z h k =
    let a = (and-eq-true_iff (le x y) (le y x)).0 (sym (eq_is x y) ∙ h) in
    let b = (and-eq-true_iff (le y z) (le z y)).0 (sym (eq_is y z) ∙ k) in
    bool_ext (eq x z) true (λ t. tt)
    (λ t. antisymm x z (trans x y z (subst T (sym a.0) tt) (subst T (sym b.0) tt)) (trans z y x (subst T (sym b.1) tt) (subst T (sym a.1) tt)))

pub equal_trans : (p q r : Point) → equal p q ≡ true → equal q r ≡ true → equal p r ≡ true
unfolding equal
equal_trans p q r h k =
    let a = (and-eq-true_iff (eq (float p.x) (float q.x)) (eq (float p.y) (float q.y))).0 h in
    let b = (and-eq-true_iff (eq (float q.x) (float r.x)) (eq (float q.y) (float r.y))).0 k in
    (and-eq-true_iff (eq (float p.x) (float r.x)) (eq (float p.y) (float r.y))).1
    (eq_trans (float p.x) (float q.x) (float r.x) a.0 b.0, eq_trans (float p.y) (float q.y) (float r.y) a.1 b.1)

-- ---- one arm at a time

lay_drop : (p q : Point) (l : List Point) → equal p q ≡ true → lay (some p) (q ∷ l) ≡ lay (some p) l
unfolding lay
lay_drop p q l h = rw (h, lay)

lay_write : (p q : Point) (l : List Point) → equal p q ≡ false → lay (some p) (q ∷ l) ≡ q ∷ lay (some q) l
unfolding lay
lay_write p q l h = rw (h, lay)

-- ---- anywhere

-- of two that are equal and stand together, with the last one written before them
pair_kept : (o : Option Point) (p q : Point) (l : List Point) → equal p q ≡ true → lay o (p ∷ q ∷ l) ≡ lay o (p ∷ l)
unfolding lay
pair_kept none p q l h = ap {B = List Point} (λ (t : List Point). p ∷ t) (lay_drop p q l h)
pair_kept (some r) p q l h = go (equal r p) refl
  where
    go : (t : Bool) → equal r p ≡ t → lay (some r) (p ∷ q ∷ l) ≡ lay (some r) (p ∷ l)
    go true e = lay_drop r p (q ∷ l) e ∙ lay_drop r q l (equal_trans r p q e h) ∙ sym (lay_drop r p l e)
    go false e = lay_write r p (q ∷ l) e ∙ ap {B = List Point} (λ (t : List Point). p ∷ t) (lay_drop p q l h) ∙ sym (lay_write r p l e)

-- WHERE A REPEATED X, Y IS DROPPED, THE EARLIER ONE'S EXTRAS REMAIN: of two points that are equal and stand together the later one counts for nothing
pub earlier_kept : (o : Option Point) (a : List Point) (p q : Point) (l : List Point) → equal p q ≡ true → lay o (a ++ (p ∷ q ∷ l)) ≡ lay o (a ++ (p ∷ l))
unfolding lay
earlier_kept o [] p q l h = pair_kept o p q l h
earlier_kept none (b ∷ a) p q l h = ap {B = List Point} (λ (t : List Point). b ∷ t) (earlier_kept (some b) a p q l h)
earlier_kept (some r) (b ∷ a) p q l h = go (equal r b) (earlier_kept (some r) a p q l h) (earlier_kept (some b) a p q l h)
  where
    go : (t : Bool) → lay (some r) (a ++ (p ∷ q ∷ l)) ≡ lay (some r) (a ++ (p ∷ l)) → lay (some b) (a ++ (p ∷ q ∷ l)) ≡ lay (some b) (a ++ (p ∷ l))
        → ◌≡◌ {A = List Point} (elim t [ true ↦ lay (some r) (a ++ (p ∷ q ∷ l)) | false ↦ b ∷ lay (some b) (a ++ (p ∷ q ∷ l)) ])
        (elim t [ true ↦ lay (some r) (a ++ (p ∷ l)) | false ↦ b ∷ lay (some b) (a ++ (p ∷ l)) ])
    go true x y = x
    go false x y = ap {B = List Point} (λ (t : List Point). b ∷ t) y

-- and the first of all is written as it is
pub first_kept : (p q : Point) (l : List Point) → equal p q ≡ true → lay none (p ∷ q ∷ l) ≡ p ∷ lay (some p) l
unfolding lay
first_kept p q l h = pair_kept none p q l h
