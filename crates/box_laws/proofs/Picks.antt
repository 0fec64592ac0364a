-- The lesser and the greater of two numbers are one law over the order: of two numbers the second is taken where it is ahead of the first. Taking the best of
-- three in either order is the same, and the best of a list is the earliest of those that nothing is ahead of.
use Prim.Native.Nat.{ℕ, zero, suc, ◌+◌, ◌≤◌, ◌<◌}
use mathlib.Core.Path.{◌≡◌, refl, sym, ap, subst, ◌∙◌}
use mathlib.Core.Bool.{Bool, true, false, not, cond, true≢false}
use mathlib.Core.List.{List, [], ◌∷◌, ◌++◌, append_assoc, append-nil}
use mathlib.Core.Logic.{◌⊎◌, inl, inr}
use native.Mathlib.Nat.{eq-or-lt_of_le}
use native.Mathlib.Omega.{arith}
use lib.Dec.{T}
use lib.ListN.{length, get_or, length-append, get_or-append}
use lib.Seq.{get_or-append_seam}
use lib.Ieee.{Float, nan, inf, fin, lt, le, of_bits}
use lib.Ieee.Bits.{is_true}
use lib.Ieee.Scale.{finite}
use Rattle.rules.specs.Plane.{float}
use Rattle.float_order.proofs.Order.{refl_le, lt_is, le_num_l, le_num_r, lt_to_le, nlt_to_le, lt_of_lt_of_le, lt_of_le_of_lt}
use Rattle.box_laws.specs.Sound.{Number}

-- an order of numbers that are no NaN
pub record Order (ahead : ℕ → ℕ → Bool) : Type 0 where
  pub through : (a b c : ℕ) → Number a → Number b → Number c → ahead a b ≡ true → ahead c b ≡ false → ahead a c ≡ true
  pub apart : (a b : ℕ) → Number a → Number b → ahead a b ≡ true → ahead b a ≡ false

-- r stands in l, nothing of l is ahead of it, and it is ahead of what stands before it
pub record Earliest (ahead : ℕ → ℕ → Bool) (l : List ℕ) (r : ℕ) : Type 0 where
  pub place : ℕ
  pub inside : place < length l
  pub there : get_or l place 0 ≡ r
  pub none : (j : ℕ) → j < length l → ahead (get_or l j 0) r ≡ false
  pub before : (j : ℕ) → j < place → ahead r (get_or l j 0) ≡ true

abbrev pub Numbers : List ℕ → Type 0
Numbers l = (j : ℕ) → j < length l → Number (get_or l j 0)

-- ---- any order

module _ (ahead : ℕ → ℕ → Bool) where
  abbrev pub pick : ℕ → ℕ → ℕ
  pick a b = cond (ahead b a) b a

  unfoldable pub best : ℕ → List ℕ → ℕ
  best a [] = a
  best a (x ∷ l) = best (pick a x) l

  pub pick_number : (a x : ℕ) → Number a → Number x → Number (pick a x)
  pick_number a x na nx = go (ahead x a)
    where
      go : (t : Bool) → Number (cond t x a)
      go true = nx
      go false = na

  -- a number and itself
  pub pick_self : (a : ℕ) → pick a a ≡ a
  pick_self a = go (ahead a a)
    where
      go : (t : Bool) → cond t a a ≡ a
      go true = refl
      go false = refl

  module _ (o : Order ahead) where
    -- of three
    pub pick_assoc : (a b c : ℕ) → Number a → Number b → Number c → pick a (pick b c) ≡ pick (pick a b) c
    pick_assoc a b c na nb nc = go (ahead b a) (ahead c b) (ahead c a) refl refl refl
      where
        go : (p q r : Bool) → ahead b a ≡ p → ahead c b ≡ q → ahead c a ≡ r → pick a (pick b c) ≡ pick (pick a b) c
        go true true true e f g = rw (e, f, g)
        go true true false e f g = absurd (true≢false (sym (o.through c b a nc nb na f (o.apart b a nb na e)) ∙ g))
        go true false r e f g = rw (f, e, f)
        go false true true e f g = rw (f, e, g)
        go false true false e f g = rw (f, e, g)
        go false false true e f g = absurd (true≢false (sym (o.through c a b nc na nb g e) ∙ f))
        go false false false e f g = rw (f, e, g)

    -- one number more
    later : (l : List ℕ) (a x : ℕ) → Number a → Number x → Numbers l → Earliest ahead l a → Earliest ahead (l ++ (x ∷ [])) (pick a x)
    later l a x na nx ns e = go (ahead x a) refl
      where
        size : length (l ++ (x ∷ [])) ≡ length l + 1
        size = length-append l (x ∷ [])

        old : (j : ℕ) → j < length l → get_or (l ++ (x ∷ [])) j 0 ≡ get_or l j 0
        old j h = get_or-append l (x ∷ []) 0 j h

        last : get_or (l ++ (x ∷ [])) (length l) 0 ≡ x
        last = get_or-append_seam l x [] 0

        each : (P : ℕ → Type 0) → ((j : ℕ) → j < length l → P (get_or l j 0)) → P x → (j : ℕ) → j < length (l ++ (x ∷ [])) → P (get_or (l ++ (x ∷ [])) j 0)
        each P f g j h = split (eq-or-lt_of_le (below j h))
          where
            below : (j : ℕ) → j < length (l ++ (x ∷ [])) → j ≤ length l
            below j h = omega (arith, size)

            split : (j ≡ length l) ⊎ (j < length l) → P (get_or (l ++ (x ∷ [])) j 0)
            split (inl z) = subst P (sym (ap (λ (i : ℕ). get_or (l ++ (x ∷ [])) i 0) z ∙ last)) g
            split (inr k) = subst P (sym (old j k)) (f j k)

        go : (t : Bool) → ahead x a ≡ t → Earliest ahead (l ++ (x ∷ [])) (cond t x a)
        go true t = record {
          place = length l;
          inside = omega (arith, size);
          there = last;
          none = each (λ (y : ℕ). ahead y x ≡ false) (λ j h. o.apart x (get_or l j 0) nx (ns j h) (o.through x a (get_or l j 0) nx na (ns j h) t (e.none j h)))
              (self (ahead x x) refl);
          before = λ j h. subst (λ (y : ℕ). ahead x y ≡ true) (sym (old j h)) (o.through x a (get_or l j 0) nx na (ns j h) t (e.none j h));
        }
          where
            self : (u : Bool) → ahead x x ≡ u → ahead x x ≡ false
            self true w = o.apart x x nx nx w
            self false w = w
        go false t = record {
          place = e.place;
          inside = omega (arith, size, e.inside);
          there = old e.place e.inside ∙ e.there;
          none = each (λ (y : ℕ). ahead y a ≡ false) e.none t;
          before = λ j h. subst (λ (y : ℕ). ahead a y ≡ true) (sym (old j (omega (arith, e.inside)))) (e.before j h);
        }

    all_but : (l : List ℕ) (x : ℕ) → Numbers l → Number x → Numbers (l ++ (x ∷ []))
    all_but l x ns nx j h = split (eq-or-lt_of_le (below j h))
      where
        below : (j : ℕ) → j < length (l ++ (x ∷ [])) → j ≤ length l
        below j h = omega (arith, length-append l (x ∷ []))

        split : (j ≡ length l) ⊎ (j < length l) → Number (get_or (l ++ (x ∷ [])) j 0)
        split (inl z) = subst Number (sym (ap (λ (i : ℕ). get_or (l ++ (x ∷ [])) i 0) z ∙ get_or-append_seam l x [] 0)) nx
        split (inr k) = subst Number (sym (get_or-append l (x ∷ []) 0 j k)) (ns j k)

    best_from : (l : List ℕ) (a : ℕ) (more : List ℕ) → Number a → Numbers l → Numbers more → Earliest ahead l a → Earliest ahead (l ++ more) (best a more)
    unfolding best
    best_from l a [] na ns ms e = subst (λ (x : List ℕ). Earliest ahead x a) (sym (append-nil l)) e
    best_from l a (x ∷ more) na ns ms e =
        let nx : Number x = ms 0 (omega arith) in
        subst (λ (y : List ℕ). Earliest ahead y (best (pick a x) more)) (append_assoc l (x ∷ []) more)
        (best_from (l ++ (x ∷ [])) (pick a x) more (pick_number a x na nx) (all_but l x ns nx) (λ j h. ms (suc j) (omega arith)) (later l a x na nx ns e))

    -- the earliest of the best
    pub best_is : (a : ℕ) (l : List ℕ) → Number a → Numbers l → ahead a a ≡ false → Earliest ahead (a ∷ l) (best a l)
    best_is a l na ns s = best_from (a ∷ []) a l na (λ j h. one j h) ns (record {
      place = 0;
      inside = omega arith;
      there = refl;
      none = λ j h. alone j h;
      before = λ j h. absurd (omega arith);
    })
      where
        one : (j : ℕ) → j < 1 → Number (get_or (a ∷ []) j 0)
        one zero h = na
        one (suc j) h = absurd (omega arith)

        alone : (j : ℕ) → j < 1 → ahead (get_or (a ∷ []) j 0) a ≡ false
        alone zero h = s
        alone (suc j) h = absurd (omega arith)

-- ---- the two orders: below takes the lesser, above the greater
abbrev pub below : ℕ → ℕ → Bool
below a b = lt (float a) (float b)

abbrev pub above : ℕ → ℕ → Bool
above a b = lt (float b) (float a)

-- a number is not below one that is at or below it
le_not_lt : (x y : Float) → T (le x y) → lt y x ≡ false
le_not_lt x y h = lt_is y x (le_num_r x y h) (le_num_l x y h) ∙ ap not (is_true (le x y) h)

pub below_order : Order below
below_order = record {
  through = λ a b c na nb nc h k.
      is_true (lt (float a) (float c)) (lt_of_lt_of_le (float a) (float b) (float c) (subst T (sym h) tt) (nlt_to_le (float c) (float b) nc nb (subst (λ (t : Bool). T (not t)) (sym k) tt)));
  apart = λ a b na nb h. le_not_lt (float a) (float b) (lt_to_le (float a) (float b) (subst T (sym h) tt));
}

pub above_order : Order above
above_order = record {
  through = λ a b c na nb nc h k.
      is_true (lt (float c) (float a)) (lt_of_le_of_lt (float c) (float b) (float a) (nlt_to_le (float b) (float c) nb nc (subst (λ (t : Bool). T (not t)) (sym k) tt)) (subst T (sym h) tt));
  apart = λ a b na nb h. le_not_lt (float b) (float a) (lt_to_le (float b) (float a) (subst T (sym h) tt));
}

pub not_self : (a : ℕ) → Number a → lt (float a) (float a) ≡ false
not_self a na = le_not_lt (float a) (float a) (refl_le (float a) na)

-- ---- the infinities
finite_below : (x : Float) → T (finite x) → lt x (inf false) ≡ true
unfolding lt
finite_below nan h = absurd h
finite_below (inf s) h = absurd h
finite_below (fin s m e) h = refl

finite_above : (x : Float) → T (finite x) → lt (inf true) x ≡ true
unfolding lt
finite_above nan h = absurd h
finite_above (inf s) h = absurd h
finite_above (fin s m e) h = refl

-- a finite number is below plus infinity and above minus infinity
pub under_top : (a : ℕ) → T (finite (float a)) → below a 0x7ff0_0000_0000_0000 ≡ true
unfolding of_bits
under_top a h = finite_below (float a) h

pub over_bottom : (a : ℕ) → T (finite (float a)) → above a 0xfff0_0000_0000_0000 ≡ true
unfolding of_bits
over_bottom a h = finite_above (float a) h

-- and no number is beyond them
none_below : (x : Float) → lt (inf false) x ≡ false
unfolding lt
none_below nan = refl
none_below (inf true) = refl
none_below (inf false) = refl
none_below (fin s m e) = refl

none_above : (x : Float) → lt x (inf true) ≡ false
unfolding lt
none_above nan = refl
none_above (inf true) = refl
none_above (inf false) = refl
none_above (fin s m e) = refl

pub top_last : (a : ℕ) → below 0x7ff0_0000_0000_0000 a ≡ false
unfolding of_bits
top_last a = none_below (float a)

pub bottom_last : (a : ℕ) → above 0xfff0_0000_0000_0000 a ≡ false
unfolding of_bits
bottom_last a = none_above (float a)
