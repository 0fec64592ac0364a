-- A chain's box meets a window exactly where the chain's own coordinates do: some point is at or before the window's end where the least of them is.
-- The greatest is tested as the least is, by one law over the order.
use Prim.Native.Nat.{ℕ}
use mathlib.Core.Path.{◌≡◌, refl, sym, ap, ap₂, subst, ◌∙◌}
use mathlib.Core.Bool.{Bool, true, false, ◌&&◌, ◌||◌, cond}
use mathlib.Core.List.{List, [], ◌∷◌}
use mathlib.Core.Logic.{◌⊎◌, inl, inr}
use lib.Dec.{T}
use lib.Ieee.{Float, le, lt, eq, of_bits}
use lib.Ieee.Bits.{is_true}
use Rattle.rules.specs.declared.Box.{Box}
use Rattle.rules.specs.declared.Window.{Window}
use Rattle.rules.specs.Lists.{any_of}
use Rattle.rules.specs.Plane.{Point, float}
use Rattle.rules.specs.Boxes.{lesser, greater, union, spot, grown, box_of}
use Rattle.rules.specs.Windows.{overlap, meets}
use Rattle.float_order.proofs.Order.{bool_ext, trans, refl_le, finite_num, or_l, or_r, or_split}
use Rattle.chain_laws.proofs.Counts.{nil, cons}
use Rattle.box_laws.specs.Sound.{Number, BoxPlace, Places, BoxSound}
use Rattle.box_laws.specs.Spans.{spans}
use Rattle.box_laws.proofs.Wider.{lesser_left, lesser_right, greater_left, greater_right}
use Rattle.box_laws.proofs.Unions.{box_first, union_sound, spot_sound}

-- ---- one of two, and one of all

-- of two numbers the lesser is before a bound where one of them is, and the greater behind it
module _ (a b : ℕ) (p : Number a) (q : Number b) (t : Float) where
  lesser_before : le (float (lesser a b)) t ≡ (le (float a) t || le (float b) t)
  unfolding lesser
  lesser_before = bool_ext (le (float (lesser a b)) t) (le (float a) t || le (float b) t) (go (lt (float b) (float a))) (λ h. back (or_split (le (float a) t) (le (float b) t) h))
    where
      go : (s : Bool) → T (le (float (cond s b a)) t) → T (le (float a) t || le (float b) t)
      go true h = or_r (le (float a) t) (le (float b) t) h
      go false h = or_l (le (float a) t) (le (float b) t) h

      back : T (le (float a) t) ⊎ T (le (float b) t) → T (le (float (lesser a b)) t)
      back (inl h) = trans (float (lesser a b)) (float a) t (lesser_left a b p q) h
      back (inr h) = trans (float (lesser a b)) (float b) t (lesser_right a b p q) h

  greater_behind : le t (float (greater a b)) ≡ (le t (float a) || le t (float b))
  unfolding greater
  greater_behind = bool_ext (le t (float (greater a b))) (le t (float a) || le t (float b)) (go (lt (float a) (float b))) (λ h. back (or_split (le t (float a)) (le t (float b)) h))
    where
      go : (s : Bool) → T (le t (float (cond s b a))) → T (le t (float a) || le t (float b))
      go true h = or_r (le t (float a)) (le t (float b)) h
      go false h = or_l (le t (float a)) (le t (float b)) h

      back : T (le t (float a)) ⊎ T (le t (float b)) → T (le t (float (greater a b)))
      back (inl h) = trans t (float a) (float (greater a b)) h (greater_left a b p q)
      back (inr h) = trans t (float b) (float (greater a b)) h (greater_right a b p q)

or_assoc : (a b c : Bool) → ((a || b) || c) ≡ (a || (b || c))
or_assoc true b c = refl
or_assoc false b c = refl

any_cons : (f : Point → Bool) (p : Point) (l : List Point) → any_of f (p ∷ l) ≡ (f p || any_of f l)
unfolding any_of
any_cons f p l = go (f p)
  where
    go : (b : Bool) → elim b [ true ↦ true | false ↦ any_of f l ] ≡ (b || any_of f l)
    go true = refl
    go false = refl

-- one of a box's four numbers, and a test of it that goes by one of two
pub record Side : Type 0 where
  pub get : Box → ℕ
  pub own : Point → ℕ
  pub test : ℕ → Bool
  pub of_spot : (p : Point) → get (spot p) ≡ own p
  pub of_both : (b : Box) (p : Point) → BoxSound b → BoxPlace p → test (get (union b (spot p))) ≡ (test (get b) || test (own p))

-- a box grown by points passes where it does or one of them does
grown_any : (s : Side) (b : Box) (l : List Point) → BoxSound b → Places l → s.test (s.get (grown b l)) ≡ (s.test (s.get b) || any_of (λ p. s.test (s.own p)) l)
unfolding grown any_of
grown_any s b [] h nil = or_none (s.test (s.get b))
  where
    or_none : (a : Bool) → a ≡ (a || false)
    or_none true = refl
    or_none false = refl
grown_any s b (p ∷ l) h (cons k t) =
    let any = any_of (λ q. s.test (s.own q)) in
    grown_any s (union b (spot p)) l (union_sound h (spot_sound k)) t
    ∙ ap (λ (a : Bool). a || any l) (s.of_both b p h k)
    ∙ or_assoc (s.test (s.get b)) (s.test (s.own p)) (any l)
    ∙ ap (λ (a : Bool). s.test (s.get b) || a) (sym (any_cons (λ q. s.test (s.own q)) p l))

box_any : (s : Side) (p : Point) (l : List Point) → Places (p ∷ l) → s.test (s.get (box_of (p ∷ l))) ≡ any_of (λ q. s.test (s.own q)) (p ∷ l)
box_any s p l (cons k t) =
    ap (λ (b : Box). s.test (s.get b)) (box_first p l k)
    ∙ grown_any s (spot p) l (spot_sound k) t
    ∙ ap (λ (a : ℕ). s.test a || any_of (λ q. s.test (s.own q)) l) (s.of_spot p)
    ∙ sym (any_cons (λ q. s.test (s.own q)) p l)

-- ---- the four

module _ (t : Float) where
  at_least_x : Side
  unfolding union
  at_least_x = record {
    get = λ b. b.least_x;
    own = λ p. p.x;
    test = λ a. le (float a) t;
    of_spot = λ p. refl;
    of_both = λ b p s k. lesser_before b.least_x p.x s.low_x (finite_num (float p.x) k.across) t;
  }

  at_least_y : Side
  unfolding union
  at_least_y = record {
    get = λ b. b.least_y;
    own = λ p. p.y;
    test = λ a. le (float a) t;
    of_spot = λ p. refl;
    of_both = λ b p s k. lesser_before b.least_y p.y s.from_low_y (finite_num (float p.y) k.up) t;
  }

  at_greatest_x : Side
  unfolding union
  at_greatest_x = record {
    get = λ b. b.greatest_x;
    own = λ p. p.x;
    test = λ a. le t (float a);
    of_spot = λ p. refl;
    of_both = λ b p s k. greater_behind b.greatest_x p.x s.to_high_x (finite_num (float p.x) k.across) t;
  }

  at_greatest_y : Side
  unfolding union
  at_greatest_y = record {
    get = λ b. b.greatest_y;
    own = λ p. p.y;
    test = λ a. le t (float a);
    of_spot = λ p. refl;
    of_both = λ b p s k. greater_behind b.greatest_y p.y s.to_high_y (finite_num (float p.y) k.up) t;
  }

-- ---- the box of places and the window

module _ (p : Point) (l : List Point) (t : Places (p ∷ l)) where
  abbrev b : Box
  b = box_of (p ∷ l)

  -- a least is not above its greatest: the first point lies between them
  passes : (s : Side) → s.test (s.own p) ≡ true → T (s.test (s.get b))
  passes s e = subst T (sym (box_any s p l t ∙ any_cons (λ q. s.test (s.own q)) p l ∙ ap (λ (a : Bool). a || any_of (λ q. s.test (s.own q)) l) e)) tt

  self : (a : ℕ) → Number a → le (float a) (float a) ≡ true
  self a n = is_true (le (float a) (float a)) (refl_le (float a) n)

  between_x : BoxPlace p → le (float b.least_x) (float b.greatest_x) ≡ true
  unfolding at_least_x at_greatest_x
  between_x k =
      let n = self p.x (finite_num (float p.x) k.across) in
      is_true (le (float b.least_x) (float b.greatest_x))
      (trans (float b.least_x) (float p.x) (float b.greatest_x) (passes (at_least_x (float p.x)) n) (passes (at_greatest_x (float p.x)) n))

  between_y : BoxPlace p → le (float b.least_y) (float b.greatest_y) ≡ true
  unfolding at_least_y at_greatest_y
  between_y k =
      let n = self p.y (finite_num (float p.y) k.up) in
      is_true (le (float b.least_y) (float b.greatest_y))
      (trans (float b.least_y) (float p.y) (float b.greatest_y) (passes (at_least_y (float p.y)) n) (passes (at_greatest_y (float p.y)) n))

  meets_some : (w : Window) → BoxPlace p → meets w b ≡ spans w (p ∷ l)
  unfolding meets overlap spans at_least_x at_least_y at_greatest_x at_greatest_y
  meets_some w k =
      ap₂ ◌&&◌
      (ap₂ ◌&&◌ (between_x k) (ap₂ ◌&&◌ (box_any (at_least_x w.greatest_x) p l t) (box_any (at_greatest_x w.least_x) p l t)))
      (ap₂ ◌&&◌ (between_y k) (ap₂ ◌&&◌ (box_any (at_least_y w.greatest_y) p l t) (box_any (at_greatest_y w.least_y) p l t)))

-- THE BOX OF PLACES MEETS A WINDOW WHERE THEIR EXTENT DOES; that of no points meets none
pub meets_spans : (w : Window) (l : List Point) → Places l → meets w (box_of l) ≡ spans w l
unfolding meets overlap spans any_of box_of grown le lt eq of_bits
meets_spans w [] nil = refl
meets_spans w (p ∷ l) (cons k t) = meets_some p l (cons k t) w k
