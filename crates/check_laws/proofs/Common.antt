-- Laws of the first elements that two lists have in common. A list has the other's first elements as far as they are in common; and lists that begin alike
-- have as many in common with a third, as far as they do: this is what spares the points from being looked at once more.
use Prim.Native.Nat.{ℕ, zero, suc, ◌+◌, ◌≤◌, ◌<◌}
use mathlib.Core.Path.{◌≡◌, refl, sym, ap, ap₂, ◌∙◌}
use mathlib.Core.Bool.{Bool, true, false}
use mathlib.Core.List.{List, [], ◌∷◌, ◌++◌, map}
use native.Mathlib.Omega.{arith}
use lib.ListN.{length, take, drop, get_or, take-append-drop}
use lib.Seq.{take-nil}
use Rattle.check_laws.specs.Standing.{common}

module _ {A B : Type 0} (t : A → B → Bool) where
  pub common_more : (a : A) (l : List A) (b : B) (r : List B) → t a b ≡ true → common t (a ∷ l) (b ∷ r) ≡ suc (common t l r)
  unfolding common
  common_more a l b r e = rw (e, common)

  pub common_stop : (a : A) (l : List A) (b : B) (r : List B) → t a b ≡ false → common t (a ∷ l) (b ∷ r) ≡ 0
  unfolding common
  common_stop a l b r e = rw (e, common)

  pub common_none : (l : List A) → common t l [] ≡ 0
  unfolding common
  common_none [] = refl
  common_none (a ∷ l) = refl

  pub common_left : (l : List A) (r : List B) → common t l r ≤ length l
  unfolding common
  common_left [] r = omega arith
  common_left (a ∷ l) [] = omega arith
  common_left (a ∷ l) (b ∷ r) = go (t a b) refl (common_left l r)
    where
      go : (x : Bool) → t a b ≡ x → common t l r ≤ length l → common t (a ∷ l) (b ∷ r) ≤ suc (length l)
      go true e h = omega (arith, common_more a l b r e)
      go false e h = omega (arith, common_stop a l b r e)

  pub common_right : (l : List A) (r : List B) → common t l r ≤ length r
  unfolding common
  common_right [] r = omega arith
  common_right (a ∷ l) [] = omega arith
  common_right (a ∷ l) (b ∷ r) = go (t a b) refl (common_right l r)
    where
      go : (x : Bool) → t a b ≡ x → common t l r ≤ length r → common t (a ∷ l) (b ∷ r) ≤ suc (length r)
      go true e h = omega (arith, common_more a l b r e)
      go false e h = omega (arith, common_stop a l b r e)

  -- behind the first n of them
  pub common_behind : (n : ℕ) (l : List A) (r : List B) → n ≤ common t l r → common t l r ≡ n + common t (drop n l) (drop n r)
  unfolding common
  common_behind zero l r h = omega arith
  common_behind (suc n) [] r h = absurd (omega arith)
  common_behind (suc n) (a ∷ l) [] h = absurd (omega arith)
  common_behind (suc n) (a ∷ l) (b ∷ r) h = go (t a b) refl (common_behind n l r)
    where
      go : (x : Bool) → t a b ≡ x → (n ≤ common t l r → common t l r ≡ n + common t (drop n l) (drop n r))
          → common t (a ∷ l) (b ∷ r) ≡ suc n + common t (drop n l) (drop n r)
      go true e f = omega (arith, common_more a l b r e, f (omega (arith, common_more a l b r e)))
      go false e f = absurd (omega (arith, common_stop a l b r e))

  -- with the first n of a list
  pub common_cut : (n : ℕ) (l : List A) (r : List B) → common t l r ≤ n → common t l (take n r) ≡ common t l r
  unfolding common
  common_cut n [] r h = refl
  common_cut zero (a ∷ l) r h = omega arith
  common_cut (suc n) (a ∷ l) [] h = refl
  common_cut (suc n) (a ∷ l) (b ∷ r) h = go (t a b) refl (common_cut n l r)
    where
      go : (x : Bool) → t a b ≡ x → (common t l r ≤ n → common t l (take n r) ≡ common t l r) → common t (a ∷ l) (b ∷ take n r) ≡ common t (a ∷ l) (b ∷ r)
      go true e f = common_more a l b (take n r) e ∙ ap suc (f (omega (arith, common_more a l b r e))) ∙ sym (common_more a l b r e)
      go false e f = common_stop a l b (take n r) e ∙ sym (common_stop a l b r e)

  pub common_first : (n : ℕ) (l : List A) (r : List B) → n ≤ common t l r → common t l (take n r) ≡ n
  unfolding common
  common_first zero l r h = common_none l
  common_first (suc n) [] r h = absurd (omega arith)
  common_first (suc n) (a ∷ l) [] h = absurd (omega arith)
  common_first (suc n) (a ∷ l) (b ∷ r) h = go (t a b) refl (common_first n l r)
    where
      go : (x : Bool) → t a b ≡ x → (n ≤ common t l r → common t l (take n r) ≡ n) → common t (a ∷ l) (b ∷ take n r) ≡ suc n
      go true e f = common_more a l b (take n r) e ∙ ap suc (f (omega (arith, common_more a l b r e)))
      go false e f = absurd (omega (arith, common_stop a l b r e))

  -- each of them passes the test
  pub common_each : (l : List A) (r : List B) (j : ℕ) (d : A) (e : B) → j < common t l r → t (get_or l j d) (get_or r j e) ≡ true
  unfolding common
  common_each [] r j d e h = absurd (omega arith)
  common_each (a ∷ l) [] j d e h = absurd (omega arith)
  common_each (a ∷ l) (b ∷ r) zero d e h = go (t a b) refl
    where
      go : (x : Bool) → t a b ≡ x → t a b ≡ true
      go true q = q
      go false q = absurd (omega (arith, common_stop a l b r q))
  common_each (a ∷ l) (b ∷ r) (suc j) d e h = go (t a b) refl (common_each l r j d e)
    where
      go : (x : Bool) → t a b ≡ x → (j < common t l r → t (get_or l j d) (get_or r j e) ≡ true) → t (get_or l j d) (get_or r j e) ≡ true
      go true q f = f (omega (arith, common_more a l b r q))
      go false q f = absurd (omega (arith, common_stop a l b r q))

-- by tests that agree
pub common_same : {A B C D : Type 0} (t : A → B → Bool) (u : C → D → Bool) (f : A → C) (g : B → D) (P : B → Type 0)
    → ((a : A) (b : B) → P b → t a b ≡ u (f a) (g b)) → (l : List A) (r : List B) → ((i : ℕ) → i < length r → (d : B) → P (get_or r i d))
    → common t l r ≡ common u (map f l) (map g r)
unfolding common
common_same t u f g P q [] r p = refl
common_same t u f g P q (a ∷ l) [] p = refl
common_same t u f g P q (a ∷ l) (b ∷ r) p = go (t a b) refl (common_same t u f g P q l r (λ i h d. p (suc i) (omega arith) d))
  where
    go : (x : Bool) → t a b ≡ x → common t l r ≡ common u (map f l) (map g r) → common t (a ∷ l) (b ∷ r) ≡ common u (f a ∷ map f l) (g b ∷ map g r)
    go true e h = common_more t a l b r e ∙ ap suc h ∙ sym (common_more u (f a) (map f l) (g b) (map g r) (sym (q a b (p 0 (omega arith) b)) ∙ e))
    go false e h = common_stop t a l b r e ∙ sym (common_stop u (f a) (map f l) (g b) (map g r) (sym (q a b (p 0 (omega arith) b)) ∙ e))

-- ---- where the test is that two are one

module _ {A : Type 0} (same : A → A → Bool) (one : (a b : A) → same a b ≡ true → a ≡ b) (self : (a : A) → same a a ≡ true) where
  pub common_take : (l r : List A) → take (common same l r) l ≡ take (common same l r) r
  unfolding common
  common_take [] r = refl
  common_take (a ∷ l) [] = refl
  common_take (a ∷ l) (b ∷ r) = go (same a b) refl (common_take l r)
    where
      go : (x : Bool) → same a b ≡ x → take (common same l r) l ≡ take (common same l r) r
          → take (common same (a ∷ l) (b ∷ r)) (a ∷ l) ≡ take (common same (a ∷ l) (b ∷ r)) (b ∷ r)
      go true e h = rw (common_more same a l b r e) (ap₂ {C = List A} (λ (x : A) (y : List A). x ∷ y) (one a b e) h)
      go false e h = rw (common_stop same a l b r e)

  pub common_begin : (l r : List A) → common same (l ++ r) l ≡ length l
  unfolding common
  common_begin [] r = common_none same r
  common_begin (a ∷ l) r = common_more same a (l ++ r) a l (self a) ∙ ap suc (common_begin l r)

  -- a list that has all of another begins with it
  pub common_all : (l r : List A) → common same l r ≡ length r → l ≡ r ++ drop (length r) l
  common_all l r e =
      let h : take (length r) l ≡ take (length r) r = ap (λ (n : ℕ). take n l) (sym e) ∙ common_take l r ∙ ap (λ (n : ℕ). take n r) e in
      sym (take-append-drop (length r) l) ∙ ap (λ (x : List A). x ++ drop (length r) l) (h ∙ whole r)
    where
      whole : (x : List A) → take (length x) x ≡ x
      whole [] = refl
      whole (a ∷ x) = ap {B = List A} (λ (y : List A). a ∷ y) (whole x)

  -- ---- lists that begin alike

  heads : (n : ℕ) (a b : A) (l r : List A) → take (suc n) (a ∷ l) ≡ take (suc n) (b ∷ r) → (a ≡ b) × (take n l ≡ take n r)
  heads n a b l r e = (cc, cc)

  -- have as many in common with a third, where those are fewer than begin alike
  pub alike_less : (n : ℕ) (l r v : List A) → take n l ≡ take n r → common same r v < n → common same l v ≡ common same r v
  unfolding common
  alike_less zero l r v e h = absurd (omega arith)
  alike_less (suc n) [] [] v e h = refl
  alike_less (suc n) [] (b ∷ r) v e h = let z : ◌≡◌ {A = ℕ} 0 1 = cc in absurd (omega arith)
  alike_less (suc n) (a ∷ l) [] v e h = let z : ◌≡◌ {A = ℕ} 0 1 = cc in absurd (omega arith)
  alike_less (suc n) (a ∷ l) (b ∷ r) [] e h = refl
  alike_less (suc n) (a ∷ l) (b ∷ r) (c ∷ v) e h = go (same b c) refl (alike_less n l r v (heads n a b l r e).1)
    where
      q : (x : Bool) → same b c ≡ x → same a c ≡ x
      q x f = ap (λ (z : A). same z c) (heads n a b l r e).0 ∙ f

      go : (x : Bool) → same b c ≡ x → (common same r v < n → common same l v ≡ common same r v) → common same (a ∷ l) (c ∷ v) ≡ common same (b ∷ r) (c ∷ v)
      go true f g =
          common_more same a l c v (q true f) ∙ ap suc (g (omega (arith, common_more same b r c v f))) ∙ sym (common_more same b r c v f)
      go false f g = common_stop same a l c v (q false f) ∙ sym (common_stop same b r c v f)

  -- and all that begin alike, where those are not fewer
  pub alike_all : (n : ℕ) (l r v : List A) → take n l ≡ take n r → n ≤ common same r v → n ≤ common same l v
  unfolding common
  alike_all zero l r v e h = omega arith
  alike_all (suc n) [] [] v e h = h
  alike_all (suc n) [] (b ∷ r) v e h = let z : ◌≡◌ {A = ℕ} 0 1 = cc in absurd (omega arith)
  alike_all (suc n) (a ∷ l) [] v e h = absurd (omega arith)
  alike_all (suc n) (a ∷ l) (b ∷ r) [] e h = absurd (omega arith)
  alike_all (suc n) (a ∷ l) (b ∷ r) (c ∷ v) e h = go (same b c) refl (alike_all n l r v (heads n a b l r e).1)
    where
      go : (x : Bool) → same b c ≡ x → (n ≤ common same r v → n ≤ common same l v) → suc n ≤ common same (a ∷ l) (c ∷ v)
      go true f g =
          omega (arith, common_more same a l c v (ap (λ (z : A). same z c) (heads n a b l r e).0 ∙ f), common_more same b r c v f, g (omega (arith, common_more same b r c v f)))
      go false f g = absurd (omega (arith, common_stop same b r c v f))

-- ---- parts

pub take_drop : {A : Type 0} (d n : ℕ) (l : List A) → drop d (take (d + n) l) ≡ take n (drop d l)
take_drop zero n l = let e : 0 + n ≡ n = omega arith in ap (λ (i : ℕ). take i l) e
take_drop (suc d) n [] = ap (drop (suc d)) (take-nil (suc d + n)) ∙ sym (take-nil n)
take_drop (suc d) n (a ∷ l) = let e : suc d + n ≡ suc (d + n) = omega arith in ap (λ (i : ℕ). drop (suc d) (take i (a ∷ l))) e ∙ take_drop d n l
