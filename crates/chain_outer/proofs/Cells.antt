-- Points that are equal by `==` have one cell key (`equal_key`), whatever the tolerance and the origin: equal coordinates are the same distance from an
-- origin, and where that is zero, or rounds to it, a cell does not show its sign. No cell looks at extras.
use Prim.Native.Nat.{ℕ, ◌+◌, ◌*◌, ◌<◌}
use mathlib.Core.Path.{◌≡◌, refl, sym, ap, ap₂, ◌∙◌}
use mathlib.Core.Bool.{true, false, and-eq-true_iff, false≢true}
use native.Mathlib.Omega.{arith}
use native.Mathlib.Nat.{add-mul, mul_assoc, mul_comm, mul_right_comm, mul-pos}
use borrow.Author.Tests.{eqb-true}
use lib.Dec.{T}
use lib.Ieee.{Float, nan, inf, fin, binary64, neg, add, sub, div, eq}
use lib.Ieee.Positive.{den, den_pos}
use lib.Ieee.Scale.{finite}
use Rattle.rules.specs.Answers.{Cells}
use Rattle.rules.specs.Cell.{floor64, cell}
use Rattle.rules.specs.Plane.{Point, key, float, equal, cell_key, key_of}
use Rattle.float_order.proofs.Order.{plus, less, left, fin_eq}
use Rattle.float_order.proofs.Mono.{add_rounds}
use Rattle.float_order.proofs.Near.{rounds_same}
use Rattle.chain_origins.proofs.Cells.{cell_of}

-- ---- two sums over one denominator

first_over : (a u w v : ℕ) → a * (u * w * v) ≡ a * v * (u * w)
first_over a u w v = sym (mul_assoc a (u * w) v) ∙ mul_right_comm a (u * w) v

second_over : (a u w v : ℕ) → a * (u * w * v) ≡ a * u * (v * w)
second_over a u w v = simp (mul_assoc, mul_comm)

-- (a - b) / u and (c - d) / v that are equal, and (m - n) / w added to each
both_moved : (a b c d m n u v w : ℕ) → a * v + d * u ≡ c * u + b * v
    → (a * w + m * u) * v + (d * w + n * v) * u ≡ (c * w + m * v) * u + (b * w + n * u) * v
both_moved a b c d m n u v w h =
    let k = simp (add-mul, mul_assoc) at (ap (λ (z : ℕ). z * w) h) in
    simp (add-mul, mul_assoc, mul_comm) (omega arith)

-- ---- equal coordinates

level_cell : (tolerance x y o : Float) → T (finite x) → T (finite y) → T (finite o) → eq x y ≡ true
    → floor64 (div binary64 (add binary64 x o) tolerance) ≡ floor64 (div binary64 (add binary64 y o) tolerance)
level_cell tolerance x y o p q r h =
    let same : left x y ≡ left y x = eqb-true (left x y) (left y x) (sym (fin_eq x y p q) ∙ h) in
    let all : 0 < den x * den o * den y = mul-pos (mul-pos (den_pos x) (den_pos o)) (den_pos y) in
    cell_of tolerance (add binary64 x o) (add binary64 y o)
    ((plus x * den o + plus o * den x) * den y) ((less x * den o + less o * den x) * den y)
    ((plus y * den o + plus o * den y) * den x) ((less y * den o + less o * den y) * den x)
    (den x * den o * den y) all
    (both_moved (plus x) (less x) (plus y) (less y) (plus o) (less o) (den x) (den y) (den o) same)
    (rounds_same (add binary64 x o) (plus x * den o + plus o * den x) (less x * den o + less o * den x) (den x * den o) _ _ (den x * den o * den y)
    (mul-pos (den_pos x) (den_pos o)) all
    (first_over (plus x * den o + plus o * den x) (den x) (den o) (den y)) (first_over (less x * den o + less o * den x) (den x) (den o) (den y))
    (add_rounds binary64 x o p r))
    (rounds_same (add binary64 y o) (plus y * den o + plus o * den y) (less y * den o + less o * den y) (den y * den o) _ _ (den x * den o * den y)
    (mul-pos (den_pos y) (den_pos o)) all
    (second_over (plus y * den o + plus o * den y) (den x) (den o) (den y)) (second_over (less y * den o + less o * den y) (den x) (den o) (den y))
    (add_rounds binary64 y o q r))

-- an infinity or a NaN leaves of a number what it leaves of any other
equal_floor : (tolerance o x y : Float) → eq x y ≡ true
    → floor64 (div binary64 (sub binary64 x o) tolerance) ≡ floor64 (div binary64 (sub binary64 y o) tolerance)
unfolding eq sub add neg
equal_floor tolerance o nan y h = absurd (false≢true h)
equal_floor tolerance o (inf s) nan h = absurd (false≢true h)
equal_floor tolerance o (inf true) (inf true) h = refl
equal_floor tolerance o (inf true) (inf false) h = absurd (false≢true h)
equal_floor tolerance o (inf false) (inf true) h = absurd (false≢true h)
equal_floor tolerance o (inf false) (inf false) h = refl
equal_floor tolerance o (inf s) (fin t n d) h = absurd (false≢true h)
equal_floor tolerance o (fin s m e) nan h = absurd (false≢true h)
equal_floor tolerance o (fin s m e) (inf t) h = absurd (false≢true h)
equal_floor tolerance nan (fin s m e) (fin t n d) h = refl
equal_floor tolerance (inf u) (fin s m e) (fin t n d) h = refl
equal_floor tolerance (fin u k g) (fin s m e) (fin t n d) h = level_cell tolerance (fin s m e) (fin t n d) (neg (fin u k g)) tt tt tt h

-- EQUAL COORDINATES ARE IN ONE CELL, from any origin
pub equal_cell : (tolerance origin : Float) (a b : ℕ) → eq (float a) (float b) ≡ true → cell tolerance origin a ≡ cell tolerance origin b
unfolding cell
equal_cell tolerance origin a b h = equal_floor tolerance origin (float a) (float b) h

-- and so equal points of a group have one key
pub equal_key : (tolerance ox oy : Float) (g : ℕ) (p q : Point) → equal p q ≡ true → key_of (Cells tolerance ox oy) g p ≡ key_of (Cells tolerance ox oy) g q
unfolding equal key_of cell_key
equal_key tolerance ox oy g p q h =
    let e = (and-eq-true_iff (eq (float p.x) (float q.x)) (eq (float p.y) (float q.y))).0 h in
    ap₂ (key g) (equal_cell tolerance ox p.x q.x e.0) (equal_cell tolerance oy p.y q.y e.1)
