-- Points laid with repeats dropped, where the test is that two points are one. What is laid already lays as itself, and a turned run lays as the laid run
-- turned: so a run may stand for its laid run, in either direction, wherever it is laid once more.
use Prim.Native.Nat.{ℕ}
use mathlib.Core.Path.{◌≡◌, refl, sym, ap, ap₂, ◌∙◌, subst}
use mathlib.Core.Bool.{Bool, true, false}
use mathlib.Core.List.{List, [], ◌∷◌, ◌++◌, append-nil, reverse, reverse-cons, flat_map}
use mathlib.Core.Option.{Option, none, some}
use native.Mathlib.Omega.{arith}

module _ {A : Type 0} (same : A → A → Bool) where
  unfoldable pub meets : Option A → A → Bool
  meets none p = false
  meets (some q) p = same q p

  -- the book's `lay`, for any points and any test
  unfoldable pub laid : Option A → List A → List A
  unfolding meets
  laid o [] = []
  laid o (p ∷ r) = elim (meets o p) [ true ↦ laid o r | false ↦ p ∷ laid (some p) r ]

-- the last point of a list behind o
unfoldable pub last_from : {A : Type 0} → Option A → List A → Option A
last_from o [] = o
last_from o (p ∷ r) = last_from (some p) r

pub last_append : {A : Type 0} (o : Option A) (a b : List A) → last_from o (a ++ b) ≡ last_from (last_from o a) b
unfolding last_from
last_append o [] b = refl
last_append o (p ∷ a) b = last_append (some p) a b

module _ {A : Type 0} (same : A → A → Bool) where
  pub laid_drop : (o : Option A) (p : A) (r : List A) → meets same o p ≡ true → laid same o (p ∷ r) ≡ laid same o r
  unfolding laid
  laid_drop o p r e = rw (e, laid)

  pub laid_keep : (o : Option A) (p : A) (r : List A) → meets same o p ≡ false → laid same o (p ∷ r) ≡ p ∷ laid same (some p) r
  unfolding laid
  laid_keep o p r e = rw (e, laid)

  pub laid_first : (p : A) (r : List A) → laid same none (p ∷ r) ≡ p ∷ laid same (some p) r
  unfolding meets
  laid_first p r = laid_keep none p r refl

  module _ (one : (a b : A) → same a b ≡ true → a ≡ b) (self : (a : A) → same a a ≡ true) where
    -- what is met is the last point
    met : (o : Option A) (p : A) → meets same o p ≡ true → o ≡ some p
    unfolding meets
    met none p e = let z : ◌≡◌ {A = ℕ} 0 1 = cc in absurd (omega arith)
    met (some q) p e = ap (λ (x : A). some x) (one q p e)

    -- ---- a run behind a run

    pub laid_append : (o : Option A) (a b : List A) → laid same o (a ++ b) ≡ laid same o a ++ laid same (last_from o a) b
    unfolding laid last_from
    laid_append o [] b = refl
    laid_append o (p ∷ a) b = go (meets same o p) refl (laid_append o a b) (laid_append (some p) a b)
      where
        go : (t : Bool) → meets same o p ≡ t → laid same o (a ++ b) ≡ laid same o a ++ laid same (last_from o a) b
            → laid same (some p) (a ++ b) ≡ laid same (some p) a ++ laid same (last_from (some p) a) b
            → laid same o (p ∷ (a ++ b)) ≡ laid same o (p ∷ a) ++ laid same (last_from (some p) a) b
        go true e f g =
            laid_drop o p (a ++ b) e ∙ f
            ∙ ap₂ (λ (x : List A) (q : Option A). x ++ laid same (last_from q a) b) (sym (laid_drop o p a e)) (met o p e)
        go false e f g =
            laid_keep o p (a ++ b) e ∙ ap {B = List A} (λ (x : List A). p ∷ x) g
            ∙ ap (λ (x : List A). x ++ laid same (last_from (some p) a) b) (sym (laid_keep o p a e))

    -- dropping repeats keeps the last point
    pub last_of_laid : (o : Option A) (a : List A) → last_from o (laid same o a) ≡ last_from o a
    unfolding laid last_from
    last_of_laid o [] = refl
    last_of_laid o (p ∷ a) = go (meets same o p) refl (last_of_laid o a) (last_of_laid (some p) a)
      where
        go : (t : Bool) → meets same o p ≡ t → last_from o (laid same o a) ≡ last_from o a
            → last_from (some p) (laid same (some p) a) ≡ last_from (some p) a → last_from o (laid same o (p ∷ a)) ≡ last_from (some p) a
        go true e f g = ap (last_from o) (laid_drop o p a e) ∙ f ∙ ap (λ (q : Option A). last_from q a) (met o p e)
        go false e f g = ap (last_from o) (laid_keep o p a e) ∙ g

    -- ---- a run that is laid already

    again_behind : (p : A) (a : List A) → laid same (some p) (laid same (some p) a) ≡ laid same (some p) a
    unfolding laid
    again_behind p [] = refl
    again_behind p (x ∷ a) = go (meets same (some p) x) refl (again_behind p a) (again_behind x a)
      where
        go : (t : Bool) → meets same (some p) x ≡ t → laid same (some p) (laid same (some p) a) ≡ laid same (some p) a
            → laid same (some x) (laid same (some x) a) ≡ laid same (some x) a
            → laid same (some p) (laid same (some p) (x ∷ a)) ≡ laid same (some p) (x ∷ a)
        go true e f g = rw (laid_drop (some p) x a e) f
        go false e f g = rw (laid_keep (some p) x a e, laid_keep (some p) x (laid same (some x) a) e, g)

    pub laid_again : (o : Option A) (a : List A) → laid same o (laid same none a) ≡ laid same o a
    unfolding laid
    laid_again o [] = refl
    laid_again o (p ∷ a) = rw (laid_first p a) (go (meets same o p) refl)
      where
        go : (t : Bool) → meets same o p ≡ t → laid same o (p ∷ laid same (some p) a) ≡ laid same o (p ∷ a)
        go true e =
            laid_drop o p (laid same (some p) a) e
            ∙ ap (λ (q : Option A). laid same q (laid same (some p) a)) (met o p e) ∙ again_behind p a ∙ ap (λ (q : Option A). laid same q a) (sym (met o p e))
            ∙ sym (laid_drop o p a e)
        go false e = rw (laid_keep o p (laid same (some p) a) e, laid_keep o p a e, again_behind p a)

    pub last_again : (o : Option A) (a : List A) → last_from o (laid same none a) ≡ last_from o a
    unfolding laid last_from
    last_again o [] = refl
    last_again o (p ∷ a) = ap (last_from o) (laid_first p a) ∙ last_of_laid (some p) a

    -- runs that lay the same, one behind another
    module _ {B : Type 0} (f g : B → List A) (alike : (b : B) → laid same none (f b) ≡ laid same none (g b)) where
      pub laid_alike_lem : (o : Option A) (l : List B) → laid same o (flat_map f l) ≡ laid same o (flat_map g l)
      unfolding flat_map
      laid_alike_lem o [] = refl
      laid_alike_lem o (b ∷ l) =
          let run : laid same o (f b) ≡ laid same o (g b) = sym (laid_again o (f b)) ∙ ap (laid same o) (alike b) ∙ laid_again o (g b) in
          let last : last_from o (f b) ≡ last_from o (g b) = sym (last_again o (f b)) ∙ ap (last_from o) (alike b) ∙ last_again o (g b) in
          laid_append o (f b) (flat_map f l)
          ∙ ap₂ (λ (x y : List A). x ++ y) run (ap (λ (q : Option A). laid same q (flat_map f l)) last ∙ laid_alike_lem (last_from o (g b)) l)
          ∙ sym (laid_append o (g b) (flat_map g l))

    -- ---- a run that is turned

    last_reverse : (o : Option A) (p : A) (a : List A) → last_from o (reverse (p ∷ a)) ≡ some p
    unfolding last_from
    last_reverse o p a = ap (last_from o) (reverse-cons p a) ∙ last_append o (reverse a) (p ∷ [])

    turned_test : (p x : A) → same x p ≡ false → same p x ≡ false
    turned_test p x v = other (same p x) refl
      where
        other : (s : Bool) → same p x ≡ s → same p x ≡ false
        other false u = u
        other true u =
            let w : same x p ≡ true = subst (λ (z : A). same z p ≡ true) (one p x u) (self p) in
            let z : ◌≡◌ {A = ℕ} 0 1 = cc in absurd (omega arith)

    -- one point more in front, which is one more behind where the run is turned
    turned_drop : (p x : A) (a : List A) → same x p ≡ true → laid same none (x ∷ a) ≡ laid same none (p ∷ x ∷ a)
    unfolding meets
    turned_drop p x a e =
        let q : p ≡ x = sym (one x p e) in
        let m : same p x ≡ true = subst (λ (z : A). same p z ≡ true) q (self p) in
        laid_first x a ∙ ap {B = List A} (λ (z : A). z ∷ laid same (some z) a) (sym q)
        ∙ ap {B = List A} (λ (z : List A). p ∷ z) (sym (laid_drop (some p) x a m)) ∙ sym (laid_first p (x ∷ a))

    turned_keep : (p x : A) (a : List A) → same x p ≡ false → p ∷ laid same none (x ∷ a) ≡ laid same none (p ∷ x ∷ a)
    unfolding meets
    turned_keep p x a e =
        ap {B = List A} (λ (z : List A). p ∷ z) (laid_first x a ∙ sym (laid_keep (some p) x a (turned_test p x e))) ∙ sym (laid_first p (x ∷ a))

    one_kept : (o : Option A) (p : A) → meets same o p ≡ false → laid same o (p ∷ []) ≡ p ∷ []
    unfolding laid
    one_kept o p e = laid_keep o p [] e

    one_dropped : (o : Option A) (p : A) → meets same o p ≡ true → laid same o (p ∷ []) ≡ []
    unfolding laid
    one_dropped o p e = laid_drop o p [] e

    turned_one : (p x : A) (a : List A) → reverse (laid same none (x ∷ a)) ++ laid same (some x) (p ∷ []) ≡ reverse (laid same none (p ∷ x ∷ a))
    unfolding meets
    turned_one p x a = go (same x p) refl
      where
        go : (t : Bool) → same x p ≡ t → reverse (laid same none (x ∷ a)) ++ laid same (some x) (p ∷ []) ≡ reverse (laid same none (p ∷ x ∷ a))
        go true e =
            ap (λ (z : List A). reverse (laid same none (x ∷ a)) ++ z) (one_dropped (some x) p e)
            ∙ append-nil (reverse (laid same none (x ∷ a))) ∙ ap reverse (turned_drop p x a e)
        go false e =
            ap (λ (z : List A). reverse (laid same none (x ∷ a)) ++ z) (one_kept (some x) p e)
            ∙ sym (reverse-cons p (laid same none (x ∷ a))) ∙ ap reverse (turned_keep p x a e)

    pub laid_reverse : (a : List A) → laid same none (reverse a) ≡ reverse (laid same none a)
    unfolding laid meets last_from
    laid_reverse [] = refl
    laid_reverse (p ∷ []) = refl
    laid_reverse (p ∷ x ∷ a) =
        ap (laid same none) (reverse-cons p (x ∷ a)) ∙ laid_append none (reverse (x ∷ a)) (p ∷ [])
        ∙ ap₂ (λ (y : List A) (o : Option A). y ++ laid same o (p ∷ [])) (laid_reverse (x ∷ a)) (last_reverse none x a)
        ∙ turned_one p x a
