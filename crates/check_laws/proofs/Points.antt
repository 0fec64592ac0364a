-- Points by what they are: two points are equal by `==` exactly where their values are the same, if one of them is no NaN. So a line, whose points are
-- places, stands in a chain, whose points may be anything, exactly where its values do.
use Prim.Native.Nat.{ℕ, zero, suc, ◌≤◌}
use mathlib.Core.Path.{◌≡◌, refl, sym, ap, ap₂, ◌∙◌, subst}
use mathlib.Core.Bool.{Bool, true, false, not, ◌&&◌, and-eq-true_iff}
use mathlib.Core.Logic.{◌⊎◌, inl, inr}
use mathlib.Core.List.{List, [], ◌∷◌, map, reverse}
use mathlib.Core.Option.{none}
use native.Mathlib.Omega.{arith}
use lib.Dec.{T, eqb}
use lib.Ieee.{Float, nan, binary64, eq, is_nan}
use lib.Ieee.Bits.{of_bits-fits}
use lib.ListN.{length, drop, length-map, length-reverse}
use borrow.Author.Tests.{eqb-true, eq-eqb, ne_eqb, eqb-false}
use Rattle.rules.specs.Plane.{Point, float, equal}
use Rattle.rules.specs.Chaining.{lay}
use Rattle.rules.specs.Check.{agree}
use Rattle.float_order.specs.Key.{key}
use Rattle.float_order.proofs.Keys.{key_eq_is}
use Rattle.chain_laws.proofs.Counts.{Each, cons, each_get_d}
use Rattle.chain_extras.proofs.Bare.{map_turned}
use Rattle.chain_extras.proofs.Riding.{each_reverse, each_lay}
use Rattle.chain_travel.proofs.Laying.{laid, laid_reverse}
use Rattle.chain_travel.proofs.Values.{Number, value, same, one, self, equal_value, lay_values}
use Rattle.check_laws.specs.Standing.{common, run, laid_run, size_of, standing}
use Rattle.check_laws.proofs.Common.{common_right, common_same}

-- ---- a point

-- whether a number is a NaN
nan_or_number : (x : Float) → (is_nan x ≡ true) ⊎ T (not (is_nan x))
nan_or_number x = go (is_nan x) refl
  where
    go : (b : Bool) → is_nan x ≡ b → (is_nan x ≡ true) ⊎ T (not (is_nan x))
    go true e = inl e
    go false e = inr (subst (λ (b : Bool). T (not b)) (sym e) tt)

eqb_turned : (a b : ℕ) → eqb a b ≡ eqb b a
eqb_turned a b = go (eqb a b) refl
  where
    go : (x : Bool) → eqb a b ≡ x → eqb a b ≡ eqb b a
    go true e = e ∙ sym (eq-eqb b a (sym (eqb-true a b e)))
    go false e = e ∙ sym (ne_eqb b a (λ q. eqb-false a b e (sym q)))

-- no number is equal to a NaN, on either side
nan_left : (x y : Float) → is_nan x ≡ true → eq x y ≡ false
unfolding eq is_nan
nan_left nan y e = refl
nan_left (lib.Ieee.inf s) y e = let z : ◌≡◌ {A = ℕ} 0 1 = cc in absurd (omega arith)
nan_left (lib.Ieee.fin s m k) y e = let z : ◌≡◌ {A = ℕ} 0 1 = cc in absurd (omega arith)

nan_right : (x y : Float) → is_nan y ≡ true → eq x y ≡ false
unfolding eq is_nan
nan_right nan nan e = refl
nan_right (lib.Ieee.inf s) nan e = refl
nan_right (lib.Ieee.fin s m k) nan e = refl
nan_right x (lib.Ieee.inf s) e = let z : ◌≡◌ {A = ℕ} 0 1 = cc in absurd (omega arith)
nan_right x (lib.Ieee.fin s m k) e = let z : ◌≡◌ {A = ℕ} 0 1 = cc in absurd (omega arith)

number_left : (a b : ℕ) → T (not (is_nan (float a))) → eq (float a) (float b) ≡ eqb (key (float a)) (key (float b))
number_left a b n = go (nan_or_number (float b))
  where
    go : (is_nan (float b) ≡ true) ⊎ T (not (is_nan (float b))) → eq (float a) (float b) ≡ eqb (key (float a)) (key (float b))
    go (inl e) =
        nan_right (float a) (float b) e ∙ sym (nan_left (float b) (float a) e)
        ∙ key_eq_is (float b) (float a) (of_bits-fits binary64 b) (of_bits-fits binary64 a) n ∙ eqb_turned (key (float b)) (key (float a))
    go (inr i) = key_eq_is (float a) (float b) (of_bits-fits binary64 a) (of_bits-fits binary64 b) i

pub equal_value_left : (p q : Point) → Number p → equal p q ≡ same (value p) (value q)
unfolding equal same value
equal_value_left p q n = ap₂ (λ (s t : Bool). s && t) (number_left p.x q.x n.x_number) (number_left p.y q.y n.y_number)

-- what is equal to something is no NaN
eq_number : (x y : Float) → eq x y ≡ true → T (not (is_nan x))
eq_number x y e = go (nan_or_number x)
  where
    go : (is_nan x ≡ true) ⊎ T (not (is_nan x)) → T (not (is_nan x))
    go (inl n) = let f = nan_left x y n in let z : ◌≡◌ {A = ℕ} 0 1 = cc in absurd (omega arith)
    go (inr i) = i

pub equal_number : (p q : Point) → equal p q ≡ true → Number p
unfolding equal
equal_number p q e =
    let t = (and-eq-true_iff (eq (float p.x) (float q.x)) (eq (float p.y) (float q.y))).0 e in
    record { x_number = eq_number (float p.x) (float q.x) t.0; y_number = eq_number (float p.y) (float q.y) t.1 }

-- ---- lists of points

abbrev pub values : List Point → List (ℕ × ℕ)
values l = map value l

pub agree_same : (a b : List Point) → Each Number a → agree a b ≡ true → values a ≡ values b
unfolding agree
agree_same [] [] n e = refl
agree_same [] (q ∷ b) n e = let z : ◌≡◌ {A = ℕ} 0 1 = cc in absurd (omega arith)
agree_same (p ∷ a) [] n e = let z : ◌≡◌ {A = ℕ} 0 1 = cc in absurd (omega arith)
agree_same (p ∷ a) (q ∷ b) (cons n ns) e =
    let t = (and-eq-true_iff (equal p q) (agree a b)).0 e in
    ap₂ {C = List (ℕ × ℕ)} (λ (x : ℕ × ℕ) (l : List (ℕ × ℕ)). x ∷ l) (one (value p) (value q) (sym (equal_value_left p q n) ∙ t.0)) (agree_same a b ns t.1)

pub same_agree : (a b : List Point) → Each Number a → values a ≡ values b → agree a b ≡ true
unfolding agree
same_agree [] [] n e = refl
same_agree [] (q ∷ b) n e = let z : ◌≡◌ {A = ℕ} 0 1 = cc in absurd (omega arith)
same_agree (p ∷ a) [] n e = let z : ◌≡◌ {A = ℕ} 0 1 = cc in absurd (omega arith)
same_agree (p ∷ a) (q ∷ b) (cons n ns) e =
    let u : value p ≡ value q = cc in
    let v : values a ≡ values b = cc in
    (and-eq-true_iff (equal p q) (agree a b)).1
    (equal_value_left p q n ∙ subst (λ (z : ℕ × ℕ). same (value p) z ≡ true) u (self (value p)), same_agree a b ns v)

-- ---- a line

pub run_numbers : (e : Bool) (l : List Point) → Each Number l → Each Number (run e l)
unfolding run
run_numbers true l n = each_reverse Number l n
run_numbers false l n = n

pub laid_values_lem : (e : Bool) (l : List Point) → Each Number l → values (laid_run e l) ≡ laid same none (values (run e l))
unfolding laid_run
laid_values_lem e l n = lay_values (run e l) (run_numbers e l n)

pub laid_numbers : (e : Bool) (l : List Point) → Each Number l → Each Number (laid_run e l)
unfolding laid_run
laid_numbers e l n = each_lay Number none (run e l) (run_numbers e l n)

-- as many in either direction
pub laid_size : (e : Bool) (l : List Point) → Each Number l → length (laid_run e l) ≡ size_of l
unfolding laid_run size_of run
laid_size false l n = refl
laid_size true l n =
    sym (length-map (lay none (reverse l)) value) ∙ ap length (lay_values (reverse l) (each_reverse Number l n) ∙ ap (laid same none) (map_turned value l []) ∙ laid_reverse same one self (values l))
    ∙ length-reverse (laid same none (values l)) ∙ ap length (sym (lay_values l n)) ∙ length-map (lay none l) value

-- ---- where it stands

map_drop : (i : ℕ) (l : List Point) → values (drop i l) ≡ drop i (values l)
map_drop zero l = refl
map_drop (suc i) [] = refl
map_drop (suc i) (p ∷ l) = map_drop i l

pub standing_right : (chain : List Point) (e : Bool) (l : List Point) (i : ℕ) → standing chain e l i ≤ length (laid_run e l)
unfolding standing
standing_right chain e l i = common_right equal (drop i chain) (laid_run e l)

pub standing_values : (chain : List Point) (e : Bool) (l : List Point) (i : ℕ) → Each Number l
    → standing chain e l i ≡ common same (drop i (values chain)) (values (laid_run e l))
unfolding standing
standing_values chain e l i n =
    common_same equal same value value Number equal_value (drop i chain) (laid_run e l)
    (λ j h d. each_get_d Number (laid_run e l) j d (laid_numbers e l n) h)
    ∙ ap (λ (t : List (ℕ × ℕ)). common same t (values (laid_run e l))) (map_drop i chain)
