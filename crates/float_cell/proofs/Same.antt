-- Two cells have one number in a key exactly if they are one cell: lifting an `i64` by 2 ^ 63 loses nothing.
use Rattle.std.proofs.Common.{◌≡◌, ℕ, ◌^◌, ◌<◌, Bool, true, false, eqb, ℤ, pos, negsuc, sym, refl, ap, ◌∙◌, subst, arith, eq-eqb, ne_eqb, eqb-true}
use borrow.Author.Tests.{eqb-false}
use lib.Signed.{mag}
use lib.Ieee.{Float, binary64, of_bits, sub, div}
use Rattle.rules.specs.Cell.{floor64, cell}
use Rattle.rules.specs.Plane.{same_int}
use Rattle.float_cell.specs.Lifted.{lifted}
use Rattle.float_cell.proofs.Held.{held, held_is, floor_in}

pub cell_in : (tolerance origin : Float) (n : ℕ) → mag (cell tolerance origin n) < 2 ^ 63
unfolding cell
cell_in tolerance origin n = floor_in (div binary64 (sub binary64 (of_bits binary64 n) origin) tolerance)

-- a test that adds, or takes away from, both sides alike
shifted : (a b x y : ℕ) → (a ≡ b → x ≡ y) → (x ≡ y → a ≡ b) → eqb a b ≡ eqb x y
shifted a b x y f g = go (eqb a b) refl
  where
    go : (t : Bool) → eqb a b ≡ t → t ≡ eqb x y
    go true h = sym (eq-eqb x y (f (eqb-true a b h)))
    go false h = sym (ne_eqb x y (λ e. eqb-false a b h (g e)))

pub lifted_same_is : (a b : ℤ) → mag a < 2 ^ 63 → mag b < 2 ^ 63 → same_int a b ≡ eqb (lifted a) (lifted b)
lifted_same_is (pos a) (pos b) p q = shifted a b (lifted (pos a)) (lifted (pos b)) (λ e. omega arith) (λ e. omega arith)
lifted_same_is (pos a) (negsuc b) p q = sym (ne_eqb (lifted (pos a)) (lifted (negsuc b)) (λ e. omega arith))
lifted_same_is (negsuc a) (pos b) p q = sym (ne_eqb (lifted (negsuc a)) (lifted (pos b)) (λ e. omega arith))
lifted_same_is (negsuc a) (negsuc b) p q = shifted a b (lifted (negsuc a)) (lifted (negsuc b)) (λ e. omega arith) (λ e. omega arith)

-- the law that a table of keys cites
pub cell_same_is : (tolerance origin : Float) (n k : ℕ)
    → same_int (cell tolerance origin n) (cell tolerance origin k) ≡ eqb (lifted (cell tolerance origin n)) (lifted (cell tolerance origin k))
cell_same_is tolerance origin n k =
    lifted_same_is (cell tolerance origin n) (cell tolerance origin k) (cell_in tolerance origin n) (cell_in tolerance origin k)

-- ---- the calls of `cell_key` one after another
pub joined : (k n : ℕ) (z : ℤ) (v o w : Float) → k ≡ lifted (held z) → z ≡ floor64 (div binary64 (sub binary64 v o) w) → v ≡ of_bits binary64 n
    → k ≡ lifted (cell w o n)
unfolding cell
joined k n z v o w p q r =
    p
    ∙ ap lifted (held_is z (subst (λ (y : ℤ). mag y < 2 ^ 63) (sym q) (floor_in (div binary64 (sub binary64 v o) w))) ∙ q)
    ∙ ap (λ (u : Float). lifted (floor64 (div binary64 (sub binary64 u o) w))) r
