-- Lists, and what is in them: where two are put together, mapped, or some elements are kept.
use mathlib.Core.Path.{◌≡◌, refl, sym, ◌∙◌, ap, ap₂}
use mathlib.Core.Bool.{Bool, true, false}
use mathlib.Core.Logic.{◌⊎◌, inl, inr, ⊎_elim}
use mathlib.Core.List.{List, [], ◌∷◌, ◌++◌, map}
use Rattle.rules.specs.Lists.{keep}
use Rattle.pair_laws.specs.Sets.{In}
use Rattle.pair_laws.proofs.Order.{two, tf}

module _ {A : Type 0} where
  pub in_append : (q : A) (a b : List A) → In q (a ++ b) → In q a ⊎ In q b
  in_append q [] b h = inr h
  in_append q (x ∷ xs) b (inl e) = inl (inl e)
  in_append q (x ∷ xs) b (inr m) = ⊎_elim (λ (k : In q xs). inl (inr k)) (λ (k : In q b). inr k) (in_append q xs b m)

  pub append_in : (q : A) (a b : List A) → In q a ⊎ In q b → In q (a ++ b)
  append_in q [] b (inl h) = absurd h
  append_in q [] b (inr h) = h
  append_in q (x ∷ xs) b (inl (inl e)) = inl e
  append_in q (x ∷ xs) b (inl (inr m)) = inr (append_in q xs b (inl m))
  append_in q (x ∷ xs) b (inr m) = inr (append_in q xs b (inr m))

  module _ (f : A → Bool) where
    pub keep_yes : (x : A) (xs : List A) → f x ≡ true → keep f (x ∷ xs) ≡ x ∷ keep f xs
    unfolding keep
    keep_yes x xs e = rw (e, keep)

    pub keep_no : (x : A) (xs : List A) → f x ≡ false → keep f (x ∷ xs) ≡ keep f xs
    unfolding keep
    keep_no x xs e = rw (e, keep)

    pub in_keep : (q : A) (l : List A) → In q (keep f l) → In q l × (f q ≡ true)
    unfolding keep
    in_keep q [] h = absurd h
    in_keep q (x ∷ xs) h = go (f x) refl (in_keep q xs) h
      where
        go : (b : Bool) → f x ≡ b → (In q (keep f xs) → In q xs × (f q ≡ true)) → In q (elim b as (λ _. List A) [ true ↦ x ∷ keep f xs | false ↦ keep f xs ])
            → In q (x ∷ xs) × (f q ≡ true)
        go true e ih (inl k) = (inl k, ap f k ∙ e)
        go true e ih (inr k) = (inr (ih k).0, (ih k).1)
        go false e ih k = (inr (ih k).0, (ih k).1)

    pub keep_in : (q : A) (l : List A) → In q l → f q ≡ true → In q (keep f l)
    unfolding keep
    keep_in q [] h e = h
    keep_in q (x ∷ xs) h e = go (f x) refl (λ k. keep_in q xs k e) h
      where
        go : (b : Bool) → f x ≡ b → (In q xs → In q (keep f xs)) → In q (x ∷ xs) → In q (elim b as (λ _. List A) [ true ↦ x ∷ keep f xs | false ↦ keep f xs ])
        go true d ih (inl k) = inl k
        go true d ih (inr k) = inr (ih k)
        go false d ih (inl k) = absurd (tf (sym (ap f k) ∙ e) d)
        go false d ih (inr k) = ih k

    pub keep_none : (l : List A) → ((q : A) → In q l → f q ≡ false) → keep f l ≡ []
    keep_none [] h = unfold keep in refl
    keep_none (x ∷ xs) h = keep_no x xs (h x (inl refl)) ∙ keep_none xs (λ q m. h q (inr m))

    pub keep_all : (l : List A) → ((q : A) → In q l → f q ≡ true) → keep f l ≡ l
    keep_all [] h = unfold keep in refl
    keep_all (x ∷ xs) h = keep_yes x xs (h x (inl refl)) ∙ ap {B = List A} (λ l. x ∷ l) (keep_all xs (λ q m. h q (inr m)))

    pub keep_append : (a b : List A) → keep f (a ++ b) ≡ keep f a ++ keep f b
    keep_append [] b = unfold keep in refl
    keep_append (x ∷ xs) b = go (two (f x)) (keep_append xs b)
      where
        go : (f x ≡ true) ⊎ (f x ≡ false) → keep f (xs ++ b) ≡ keep f xs ++ keep f b → keep f (x ∷ xs ++ b) ≡ keep f (x ∷ xs) ++ keep f b
        go (inl e) ih = rw (keep_yes x (xs ++ b) e, keep_yes x xs e) (ap {B = List A} (λ l. x ∷ l) ih)
        go (inr e) ih = rw (keep_no x (xs ++ b) e, keep_no x xs e) ih

module _ {A B : Type 0} (f : A → B) where
  pub in_map : (q : B) (l : List A) → In q (map f l) → (p : A) × In p l × (q ≡ f p)
  in_map q [] h = absurd h
  in_map q (x ∷ xs) (inl e) = (x, inl refl, e)
  in_map q (x ∷ xs) (inr m) = (let t = in_map q xs m in (t.0, inr t.1, t.2))

  pub map_in : (p : A) (l : List A) → In p l → In (f p) (map f l)
  map_in p [] h = h
  map_in p (x ∷ xs) (inl e) = inl (ap f e)
  map_in p (x ∷ xs) (inr m) = inr (map_in p xs m)

  pub map_same : (g : A → B) (l : List A) → ((p : A) → In p l → f p ≡ g p) → map f l ≡ map g l
  map_same g [] h = refl
  map_same g (x ∷ xs) h = ap₂ {C = List B} (λ y ys. y ∷ ys) (h x (inl refl)) (map_same g xs (λ p m. h p (inr m)))
