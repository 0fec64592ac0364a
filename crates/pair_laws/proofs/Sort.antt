-- Sorting keeps the elements, puts them in order, and goes with keeping some of them. What is asked of `before` need hold only among the elements
-- of the list, which are `good`: what is before is not after, and being at or before goes on through a third.
use mathlib.Core.Path.{◌≡◌, refl, sym, ◌∙◌, ap}
use mathlib.Core.Bool.{Bool, true, false}
use mathlib.Core.Logic.{◌⊎◌, inl, inr, ⊎_elim}
use mathlib.Core.List.{List, [], ◌∷◌}
use Rattle.rules.specs.Lists.{keep}
use Rattle.pair_laws.specs.Ranked.{insert, sort}
use Rattle.pair_laws.specs.Sets.{In, Sorted}
use Rattle.pair_laws.proofs.Order.{two, tf}
use Rattle.pair_laws.proofs.Lists.{in_keep, keep_yes, keep_no}

module _ {A : Type 0} (before : A → A → Bool) where
  insert_yes : (p x : A) (xs : List A) → before p x ≡ true → insert before p (x ∷ xs) ≡ p ∷ x ∷ xs
  unfolding insert
  insert_yes p x xs e = rw (e, insert)

  insert_no : (p x : A) (xs : List A) → before p x ≡ false → insert before p (x ∷ xs) ≡ x ∷ insert before p xs
  unfolding insert
  insert_no p x xs e = rw (e, insert)

  pub in_insert : (p q : A) (l : List A) → In q (insert before p l) → (q ≡ p) ⊎ In q l
  unfolding insert
  in_insert p q [] h = h
  in_insert p q (x ∷ xs) h = go (before p x) (in_insert p q xs) h
    where
      go : (b : Bool) → (In q (insert before p xs) → (q ≡ p) ⊎ In q xs)
          → In q (elim b as (λ _. List A) [ true ↦ p ∷ x ∷ xs | false ↦ x ∷ insert before p xs ]) → (q ≡ p) ⊎ In q (x ∷ xs)
      go true ih h = h
      go false ih (inl e) = inr (inl e)
      go false ih (inr m) = ⊎_elim (λ (e : q ≡ p). inl e) (λ (k : In q xs). inr (inr k)) (ih m)

  insert_in : (p q : A) (l : List A) → (q ≡ p) ⊎ In q l → In q (insert before p l)
  unfolding insert
  insert_in p q [] h = h
  insert_in p q (x ∷ xs) h = go (before p x) (insert_in p q xs) h
    where
      go : (b : Bool) → ((q ≡ p) ⊎ In q xs → In q (insert before p xs)) → (q ≡ p) ⊎ In q (x ∷ xs)
          → In q (elim b as (λ _. List A) [ true ↦ p ∷ x ∷ xs | false ↦ x ∷ insert before p xs ])
      go true ih h = h
      go false ih (inl e) = inr (ih (inl e))
      go false ih (inr (inl e)) = inl e
      go false ih (inr (inr m)) = inr (ih (inr m))

  pub in_sort : (q : A) (l : List A) → In q (sort before l) → In q l
  unfolding sort
  in_sort q [] h = h
  in_sort q (x ∷ xs) h = ⊎_elim (λ (e : q ≡ x). inl e) (λ (m : In q (sort before xs)). inr (in_sort q xs m)) (in_insert x q (sort before xs) h)

  pub sort_in : (q : A) (l : List A) → In q l → In q (sort before l)
  unfolding sort
  sort_in q [] h = h
  sort_in q (x ∷ xs) (inl e) = insert_in x q (sort before xs) (inl e)
  sort_in q (x ∷ xs) (inr m) = insert_in x q (sort before xs) (inr (sort_in q xs m))

  module _
      (good : A → Type 0)
      (asym : (p q : A) → good p → good q → before p q ≡ true → before q p ≡ false)
      (least_trans : (p q r : A) → good p → good q → good r → before q p ≡ false → before r q ≡ false → before r p ≡ false) where
    sorted_insert : (p : A) (l : List A) → good p → ((q : A) → In q l → good q) → Sorted before l → Sorted before (insert before p l)
    unfolding insert
    sorted_insert p [] g h s = (λ q m. absurd m, tt)
    sorted_insert p (x ∷ xs) g h s = go (before p x) refl (sorted_insert p xs g (λ q m. h q (inr m)) s.1)
      where
        go : (b : Bool) → before p x ≡ b → Sorted before (insert before p xs)
            → Sorted before (elim b as (λ _. List A) [ true ↦ p ∷ x ∷ xs | false ↦ x ∷ insert before p xs ])
        go true e ih = (first, s)
          where
            first : (q : A) → In q (x ∷ xs) → before q p ≡ false
            first q (inl m) = rw m (asym p x g (h x (inl refl)) e)
            first q (inr m) = least_trans p x q g (h x (inl refl)) (h q (inr m)) (asym p x g (h x (inl refl)) e) (s.0 q m)
        go false e ih = (λ q m. ⊎_elim (λ (k : q ≡ p). rw k e) (λ (k : In q xs). s.0 q k) (in_insert p q xs m), ih)

    pub sorted_sort : (l : List A) → ((q : A) → In q l → good q) → Sorted before (sort before l)
    unfolding sort
    sorted_sort [] h = tt
    sorted_sort (x ∷ xs) h =
        sorted_insert x (sort before xs) (h x (inl refl)) (λ q m. h q (inr (in_sort q xs m))) (sorted_sort xs (λ q m. h q (inr m)))

    module _ (f : A → Bool) where
      -- what is before all of a list goes in front
      insert_first : (p : A) (l : List A) → ((q : A) → In q l → before p q ≡ true) → insert before p l ≡ p ∷ l
      insert_first p [] h = unfold insert in refl
      insert_first p (x ∷ xs) h = insert_yes p x xs (h x (inl refl))

      keep_insert_yes : (p : A) (l : List A) → good p → ((q : A) → In q l → good q) → Sorted before l → f p ≡ true
          → keep f (insert before p l) ≡ insert before p (keep f l)
      unfolding insert keep
      keep_insert_yes p [] g h s e = keep_yes f p [] e
      keep_insert_yes p (x ∷ xs) g h s e = go (two (before p x)) (two (f x)) (keep_insert_yes p xs g (λ q m. h q (inr m)) s.1 e)
        where
          -- p is before x, and so before all of the list
          ahead : before p x ≡ true → (q : A) → In q xs → before p q ≡ true
          ahead b q m =
              ⊎_elim (λ (k : before p q ≡ true). k)
              (λ (k : before p q ≡ false). absurd (tf b (least_trans x q p (h x (inl refl)) (h q (inr m)) g (s.0 q m) k)))
              (two (before p q))

          go : (before p x ≡ true) ⊎ (before p x ≡ false) → (f x ≡ true) ⊎ (f x ≡ false) → keep f (insert before p xs) ≡ insert before p (keep f xs)
              → keep f (insert before p (x ∷ xs)) ≡ insert before p (keep f (x ∷ xs))
          go (inl b) (inl c) ih = rw (insert_yes p x xs b, keep_yes f p (x ∷ xs) e, keep_yes f x xs c, insert_yes p x (keep f xs) b)
          go (inl b) (inr c) ih =
              rw (insert_yes p x xs b, keep_yes f p (x ∷ xs) e, keep_no f x xs c) (sym (insert_first p (keep f xs) (λ q m. ahead b q (in_keep f q xs m).0)))
          go (inr b) (inl c) ih = rw (insert_no p x xs b, keep_yes f x (insert before p xs) c, keep_yes f x xs c, insert_no p x (keep f xs) b, ih)
          go (inr b) (inr c) ih = rw (insert_no p x xs b, keep_no f x (insert before p xs) c, keep_no f x xs c) ih

      keep_insert_no : (p : A) (l : List A) → f p ≡ false → keep f (insert before p l) ≡ keep f l
      keep_insert_no p [] e = unfold insert in keep_no f p [] e
      keep_insert_no p (x ∷ xs) e = go (two (before p x)) (two (f x)) (keep_insert_no p xs e)
        where
          go : (before p x ≡ true) ⊎ (before p x ≡ false) → (f x ≡ true) ⊎ (f x ≡ false) → keep f (insert before p xs) ≡ keep f xs
              → keep f (insert before p (x ∷ xs)) ≡ keep f (x ∷ xs)
          go (inl b) c ih = rw (insert_yes p x xs b) (keep_no f p (x ∷ xs) e)
          go (inr b) (inl c) ih = rw (insert_no p x xs b, keep_yes f x (insert before p xs) c, keep_yes f x xs c, ih)
          go (inr b) (inr c) ih = rw (insert_no p x xs b, keep_no f x (insert before p xs) c, keep_no f x xs c) ih

      pub keep_sort : (l : List A) → ((q : A) → In q l → good q) → keep f (sort before l) ≡ sort before (keep f l)
      unfolding sort
      keep_sort [] h = unfold keep in refl
      keep_sort (x ∷ xs) h = go (two (f x)) (keep_sort xs (λ q m. h q (inr m)))
        where
          go : (f x ≡ true) ⊎ (f x ≡ false) → keep f (sort before xs) ≡ sort before (keep f xs)
              → keep f (insert before x (sort before xs)) ≡ sort before (keep f (x ∷ xs))
          go (inl e) ih =
              keep_insert_yes x (sort before xs) (h x (inl refl)) (λ q m. h q (inr (in_sort q xs m))) (sorted_sort xs (λ q m. h q (inr m))) e
              ∙ ap (insert before x) ih
              ∙ sym (ap (sort before) (keep_yes f x xs e))
          go (inr e) ih = keep_insert_no x (sort before xs) e ∙ ih ∙ sym (ap (sort before) (keep_no f x xs e))
