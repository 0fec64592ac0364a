-- A whole part t of x, as the code holds it, compared with x: it is the floor, or one less is.
use Rattle.std.proofs.Common.{◌≡◌, ◌^◌, ◌<◌, Bool, true, false, T, ℤ, pos, ◌-ℤ◌, sym, ap, ◌∙◌, subst}
use lib.Signed.{mag}
use lib.Ieee.{Float, binary64, fits, lt, to_signed, of_int}
use lib.Ieee.Casts.{to_signed_in}
use Rattle.std.specs.Int.{saturate_to_bits}
use Rattle.rules.specs.Cell.{floor64}
use Rattle.float_cell.proofs.Held.{held, held_is, floor_in}
use Rattle.float_cell.proofs.Cases.{lower, level}

read_back : (x : Float) (t : ℤ) → t ≡ to_signed 63 x → held t ≡ to_signed 63 x
read_back x t e = held_is t (subst (λ (z : ℤ). mag z < 2 ^ 63) (sym e) (to_signed_in 63 x)) ∙ e

tested : (x v : Float) (t : ℤ) (b : Bool) → t ≡ to_signed 63 x → v ≡ of_int binary64 (held t) → lt x v ≡ b → lt x (of_int binary64 (to_signed 63 x)) ≡ b
tested x v t b e w l = ap (λ (z : ℤ). lt x (of_int binary64 z)) (sym (read_back x t e)) ∙ ap (λ (z : Float). lt x z) (sym w) ∙ l

-- the whole part lies above x: one less, if there is one, is the floor
pub less_is : (x v : Float) (t r : ℤ) → T (fits binary64 x) → t ≡ to_signed 63 x → v ≡ of_int binary64 (held t) → lt x v ≡ true
    → r ≡ saturate_to_bits 63 (held t -ℤ pos 1) → held r ≡ floor64 x
less_is x v t r f e w l s =
    let i : r ≡ floor64 x = s ∙ ap (λ (z : ℤ). saturate_to_bits 63 (z -ℤ pos 1)) (read_back x t e) ∙ lower x f (tested x v t true e w l) in
    held_is r (subst (λ (z : ℤ). mag z < 2 ^ 63) (sym i) (floor_in x)) ∙ i

-- it doesn't: it is the floor
pub same_is : (x v : Float) (t : ℤ) → T (fits binary64 x) → t ≡ to_signed 63 x → v ≡ of_int binary64 (held t) → lt x v ≡ false → held t ≡ floor64 x
same_is x v t f e w l = read_back x t e ∙ level x f (tested x v t false e w l)
