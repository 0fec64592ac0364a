-- The book's selection, with each measure replaced by its key, is what ranked selection takes of the qualifying pairs: among measures that are
-- numbers the keys decide as the measures do, so that both sort alike, and taking looks at the ends alone.
use Prim.Native.Nat.{ℕ, ◌+◌}
use mathlib.Core.Path.{◌≡◌, refl, sym, ◌∙◌, ap, ap₂, fun_ext, subst}
use mathlib.Core.Bool.{Bool, true, false, ◌||◌, or_assoc}
use mathlib.Core.Logic.{◌⊎◌, inl, inr, ⊎_elim}
use mathlib.Core.List.{List, [], ◌∷◌, map}
use lib.Dec.{ltb, eqb}
use lib.Ieee.{Float}
use borrow.Author.Tests.{lt-ltb}
use native.Mathlib.Omega.{arith}
use Rattle.rules.specs.Lists.{one, count, stands}
use Rattle.rules.specs.Selecting.{End, Pair, qualifying, before, insert, sorted, greedy, select}
use Rattle.float_order.proofs.Keys.{key_lt_is, key_eq_is}
use Rattle.pair_laws.specs.Ranked as ranked
use Rattle.pair_laws.specs.Ranked.{none}
use Rattle.pair_laws.specs.Sets.{In}
use Rattle.pair_laws.specs.Ends.{keyed}
use Rattle.pair_laws.proofs.Order.{two, asym, least_trans}
use Rattle.pair_laws.proofs.Sort.{in_sort}
use Rattle.pair_laws.proofs.Qualifying.{Measured, qualifying_measured}

-- ---- the order

pub before_keyed : (p q : Pair) → Measured p → Measured q → before p q ≡ ranked.before (keyed p) (keyed q)
unfolding before ranked.before
before_keyed p q m n =
    rw (key_lt_is p.size q.size m.fitting n.fitting n.number, key_eq_is p.size q.size m.fitting n.fitting n.number)

pub before_asym : (p q : Pair) → Measured p → Measured q → before p q ≡ true → before q p ≡ false
before_asym p q m n h = before_keyed q p n m ∙ asym (keyed p) (keyed q) (sym (before_keyed p q m n) ∙ h)

pub before_least_trans : (p q r : Pair) → Measured p → Measured q → Measured r → before q p ≡ false → before r q ≡ false → before r p ≡ false
before_least_trans p q r l m n h k =
    before_keyed r p n l ∙ least_trans (keyed p) (keyed q) (keyed r) (sym (before_keyed q p m l) ∙ h) (sym (before_keyed r q n m) ∙ k)

-- ---- sorting

insert_is : (p : Pair) (l : List Pair) → insert p l ≡ ranked.insert before p l
unfolding insert ranked.insert
insert_is p [] = refl
insert_is p (q ∷ l) = go (before p q) (insert_is p l)
  where
    go : (t : Bool) → insert p l ≡ ranked.insert before p l
        → ◌≡◌ {A = List Pair} (elim t [ true ↦ p ∷ q ∷ l | false ↦ q ∷ insert p l ]) (elim t [ true ↦ p ∷ q ∷ l | false ↦ q ∷ ranked.insert before p l ])
    go true ih = refl
    go false ih = ap {B = List Pair} (λ m. q ∷ m) ih

pub sorted_is : (l : List Pair) → sorted l ≡ ranked.sort before l
unfolding sorted ranked.sort
sorted_is [] = refl
sorted_is (p ∷ l) = insert_is p (sorted l) ∙ ap (ranked.insert before p) (sorted_is l)

pub in_sorted : (q : Pair) (l : List Pair) → In q (sorted l) → In q l
in_sorted q l h = in_sort before q l (subst (In q) (sorted_is l) h)

insert_keyed : (p : Pair) (l : List Pair) → Measured p → ((q : Pair) → In q l → Measured q)
    → map keyed (insert p l) ≡ ranked.insert ranked.before (keyed p) (map keyed l)
unfolding insert ranked.insert
insert_keyed p [] m h = refl
insert_keyed p (q ∷ l) m h = go (before p q) refl (insert_keyed p l m (λ r k. h r (inr k)))
  where
    go : (t : Bool) → before p q ≡ t → map keyed (insert p l) ≡ ranked.insert ranked.before (keyed p) (map keyed l)
        → map keyed (elim t as (λ _. List Pair) [ true ↦ p ∷ q ∷ l | false ↦ q ∷ insert p l ])
        ≡ ranked.insert ranked.before (keyed p) (keyed q ∷ map keyed l)
    go true e ih = rw (sym (before_keyed p q m (h q (inl refl))) ∙ e, ranked.insert)
    go false e ih = rw (sym (before_keyed p q m (h q (inl refl))) ∙ e, ranked.insert) (ap {B = List ranked.RankedPair} (λ r. keyed q ∷ r) ih)

sorted_keyed : (l : List Pair) → ((q : Pair) → In q l → Measured q) → map keyed (sorted l) ≡ ranked.sort ranked.before (map keyed l)
unfolding sorted ranked.sort
sorted_keyed [] h = refl
sorted_keyed (p ∷ l) h =
    insert_keyed p (sorted l) (h p (inl refl)) (λ q m. h q (inr (in_sorted q l m)))
    ∙ ap (ranked.insert ranked.before (keyed p)) (sorted_keyed l (λ q m. h q (inr m)))

-- ---- taking

pub greedy_taken : (taken : List ℕ) (p : Pair) (l : List Pair) → (stands p.i taken || stands p.j taken) ≡ true → greedy taken (p ∷ l) ≡ greedy taken l
unfolding greedy
greedy_taken taken p l e = rw (e, greedy)

pub greedy_next : (taken : List ℕ) (p : Pair) (l : List Pair) → (stands p.i taken || stands p.j taken) ≡ false
    → greedy taken (p ∷ l) ≡ p ∷ greedy (p.i ∷ p.j ∷ taken) l
unfolding greedy
greedy_next taken p l e = rw (e, greedy)

-- the ends of a list, as a test
abbrev of_list : List ℕ → ℕ → Bool
of_list taken e = stands e taken

stands_cons : (e i : ℕ) (taken : List ℕ) → stands e (i ∷ taken) ≡ (eqb e i || stands e taken)
unfolding stands count
stands_cons e i taken = go (eqb e i)
  where
    none_more : 0 + count e taken ≡ count e taken
    none_more = omega arith

    go : (t : Bool) → ltb 0 (one t + count e taken) ≡ (t || ltb 0 (count e taken))
    go true = lt-ltb 0 (1 + count e taken) (omega arith)
    go false = ap (ltb 0) none_more

mark_is : (p : Pair) (taken : List ℕ) → of_list (p.i ∷ p.j ∷ taken) ≡ ranked.mark (keyed p) (of_list taken)
unfolding ranked.mark
mark_is p taken =
    fun_ext (λ e.
    stands_cons e p.i (p.j ∷ taken)
    ∙ ap (λ (t : Bool). eqb e p.i || t) (stands_cons e p.j taken)
    ∙ sym (or_assoc (eqb e p.i) (eqb e p.j) (stands e taken)))

greedy_keyed : (taken : List ℕ) (l : List Pair) → map keyed (greedy taken l) ≡ ranked.greedy (of_list taken) (map keyed l)
unfolding greedy ranked.greedy ranked.busy
greedy_keyed taken [] = refl
greedy_keyed taken (p ∷ l) = go (stands p.i taken || stands p.j taken) (greedy_keyed taken l) (greedy_keyed (p.i ∷ p.j ∷ taken) l)
  where
    go : (t : Bool) → map keyed (greedy taken l) ≡ ranked.greedy (of_list taken) (map keyed l)
        → map keyed (greedy (p.i ∷ p.j ∷ taken) l) ≡ ranked.greedy (of_list (p.i ∷ p.j ∷ taken)) (map keyed l)
        → map keyed (elim t as (λ _. List Pair) [ true ↦ greedy taken l | false ↦ p ∷ greedy (p.i ∷ p.j ∷ taken) l ])
        ≡ elim t as (λ _. List ranked.RankedPair) [
          | true ↦ ranked.greedy (of_list taken) (map keyed l)
          | false ↦ keyed p ∷ ranked.greedy (ranked.mark (keyed p) (of_list taken)) (map keyed l)
        ]
    go true ih ih' = ih
    go false ih ih' = ap {B = List ranked.RankedPair} (λ r. keyed p ∷ r) (ih' ∙ ap (λ (u : ℕ → Bool). ranked.greedy u (map keyed l)) (mark_is p taken))

pub in_greedy : (q : Pair) (taken : List ℕ) (l : List Pair) → In q (greedy taken l) → In q l
in_greedy q taken [] h = unfold greedy in h
in_greedy q taken (p ∷ l) h = go (two (stands p.i taken || stands p.j taken)) (in_greedy q taken l) (in_greedy q (p.i ∷ p.j ∷ taken) l) h
  where
    go : ((stands p.i taken || stands p.j taken) ≡ true) ⊎ ((stands p.i taken || stands p.j taken) ≡ false)
        → (In q (greedy taken l) → In q l) → (In q (greedy (p.i ∷ p.j ∷ taken) l) → In q l) → In q (greedy taken (p ∷ l)) → In q (p ∷ l)
    go (inl e) ih ih' k = inr (ih (subst (In q) (greedy_taken taken p l e) k))
    go (inr e) ih ih' k = ⊎_elim (λ (m : q ≡ p). inl m) (λ (m : In q (greedy (p.i ∷ p.j ∷ taken) l)). inr (ih' m)) (subst (In q) (greedy_next taken p l e) k)

-- ---- selecting

module _ (limit : Float) (ends : List End) where
  pub in_select : (p : Pair) → In p (select limit ends) → In p (qualifying limit ends)
  unfolding select
  in_select p h = in_sorted p (qualifying limit ends) (in_greedy p [] (sorted (qualifying limit ends)) h)

  pub select_keyed : map keyed (select limit ends) ≡ ranked.greedy none (ranked.sort ranked.before (map keyed (qualifying limit ends)))
  unfolding select
  select_keyed =
      greedy_keyed [] (sorted (qualifying limit ends))
      ∙ ap₂ ranked.greedy (fun_ext nothing) (sorted_keyed (qualifying limit ends) (qualifying_measured limit ends))
    where
      nothing : (e : ℕ) → of_list [] e ≡ none e
      nothing e = unfold stands count none in refl
